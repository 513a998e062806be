-- The laws behind the proofs of this crate, for those above it too.
pub mod Among
pub mod Unions
pub mod Stray
pub mod Fitting
pub mod Strays
pub mod Naming
