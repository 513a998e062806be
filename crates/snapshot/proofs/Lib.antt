-- The laws behind the proofs of this crate, for those above it too.
pub mod Keeping
pub mod Joining
pub mod Chained
pub mod Marking
pub mod Full
pub mod Chosen
pub mod Touches
