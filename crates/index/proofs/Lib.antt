-- The laws behind the proofs of this crate, for those above it too.
pub mod Overrank
pub mod Wanted
