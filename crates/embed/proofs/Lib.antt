-- Laws on plain lists, for the proofs of this crate and of those above it.
pub mod Embedded
pub mod Marking
pub mod Writing
pub mod Named
