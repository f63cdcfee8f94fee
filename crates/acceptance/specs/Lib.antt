pub mod Passing
pub mod Free
pub mod Circles
pub mod Starred
pub mod StarredHold
pub mod TrueAnswers
pub mod Rejected
