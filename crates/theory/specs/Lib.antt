pub mod order
pub mod cycle
pub mod tables
pub mod refusals
pub mod unit_use
pub mod list
pub mod lister
pub mod views
