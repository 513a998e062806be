-- The laws behind the promises, for the proofs of this crate and of those above it.
pub mod Places
pub mod Unions
pub mod Adding
pub mod Odd
pub mod Flips
pub mod Constants
pub mod Counting
pub mod Plus
pub mod Sums
pub mod Deciding
pub mod Triangle
pub mod Digits
pub mod Rowwise
