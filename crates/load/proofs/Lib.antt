-- Laws on loaded rows, for the proofs of this crate and of those above it.
pub mod Inserted
pub mod Loading
pub mod Tabled
pub mod Handed
pub mod Filled
pub mod Whole
pub mod Promised
