-- Laws on a file's lines, for the proofs of this crate and of those above it.
pub mod Turns
pub mod Onwards
