-- Laws on checks and lists of atoms, for the proofs of this crate and of those above it.
pub mod Chain
pub mod Leading
pub mod Ordered
