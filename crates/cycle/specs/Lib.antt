pub mod Show
pub mod Parts
pub mod OneAnswer
