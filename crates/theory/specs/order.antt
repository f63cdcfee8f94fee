pub mod Decided
pub mod KeptOperations
pub mod PlacingOutcome
pub mod PlacingSteps
pub mod OneOrder
