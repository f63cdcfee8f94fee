pub mod Fit
pub mod OneAnswer
