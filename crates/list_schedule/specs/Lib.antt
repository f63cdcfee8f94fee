pub mod WholeSchedule
pub mod OneAnswer
