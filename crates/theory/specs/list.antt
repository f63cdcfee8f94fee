pub mod LabelValues
pub mod OneListAnswer
pub mod OneListSchedule
pub mod OneStep
pub mod Progress
pub mod ReachedStates
