-- Laws on texts, for the proofs of this crate and of those above it.
pub mod Written
pub mod Decimals
pub mod Puts
