pub mod Peaking
pub mod OneAnswer
