pub mod Differences
pub mod OneAnswer
