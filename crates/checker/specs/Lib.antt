pub mod Tally
pub mod Findings
pub mod OneAnswer
