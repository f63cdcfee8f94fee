pub mod Face
pub mod OneAnswer
pub mod PartNumbers
