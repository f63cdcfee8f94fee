-- Laws for the proofs of this crate.
mod Reading
mod Filling
