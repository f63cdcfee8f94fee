-- Laws for the proofs of this crate.
mod Bounded
mod Manned
mod Trying
mod Unitless
