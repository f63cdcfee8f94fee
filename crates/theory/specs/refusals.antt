pub mod CycleAndBounds
pub mod FirstRefusal
pub mod OneRefusal
pub mod RefusalNumbers
pub mod RowAfterwards
pub mod SoundGraph
