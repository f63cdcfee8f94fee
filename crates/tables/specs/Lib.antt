pub mod LatestRow
pub mod OneAnswer
