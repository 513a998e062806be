-- What the contracts of `words` cite, in the order to read it.
pub mod Set
pub mod Calls
pub mod Promises
