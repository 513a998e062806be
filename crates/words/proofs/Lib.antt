-- Laws on plain numbers and lists, for the proofs of this crate and of those above it.
pub mod Bitwise
pub mod Packed
pub mod Member
pub mod Lowest
pub mod Subset
pub mod Scan
pub mod Counts
pub mod Merged
pub mod Meaning
pub mod Common
