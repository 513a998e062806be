-- The laws behind the proofs of this crate, for those above it too.
pub mod Nexts
pub mod Visiting
pub mod Meeting
pub mod Masked
pub mod Passed
pub mod Deciding
pub mod Standing
