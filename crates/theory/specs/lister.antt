pub mod OneLeast
pub mod OneListerAnswer
pub mod Windows
