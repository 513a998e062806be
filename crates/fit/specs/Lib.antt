-- What the contracts of `fit` cite.
pub mod Rows
