pub mod FirstInUse
