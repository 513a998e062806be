-- The laws of lists behind the proofs.
pub mod Lists
pub mod Relent
