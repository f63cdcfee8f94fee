pub mod Widths
pub mod Round
pub mod Linked
pub mod OneAnswer
