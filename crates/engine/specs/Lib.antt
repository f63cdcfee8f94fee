pub mod Frame
pub mod Laid
pub mod Rows
pub mod Numbers
pub mod Asked
pub mod Dispatch
pub mod Serving
