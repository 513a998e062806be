-- Laws on files and lists, for the proofs of this crate and of those above it.
pub mod KindNumbers
pub mod Listing
pub mod Offsets
pub mod Pairs
pub mod Tables
