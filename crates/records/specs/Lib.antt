-- What the contracts of `records` cite, in the order to read it.
pub mod Rows
pub mod Check
pub mod Promises
