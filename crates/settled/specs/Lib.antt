-- What the table of settled examples says.
pub mod Settled
