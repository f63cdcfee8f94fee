pub mod Linking
pub mod WalkedBack
pub mod OneAnswer
