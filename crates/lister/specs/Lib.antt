pub mod Search
pub mod Lent
pub mod Asking
pub mod OneAnswer
