pub mod Admitted
pub mod AdmissionLaws
pub mod OneAnswer
