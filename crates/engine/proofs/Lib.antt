pub mod Reading
pub mod Lending
pub mod Dispatching
