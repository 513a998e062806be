-- Laws on the check of a file, for the proofs of this crate and of those above it.
pub mod Brought
pub mod Passed
pub mod Turns
pub mod Whole
