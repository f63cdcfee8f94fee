pub mod KeepingStarts
pub mod LatestTurned
pub mod OneTable
pub mod SomeLatency
pub mod OneTableAnswer
