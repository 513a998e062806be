-- What the contracts of `by_ref` cite, in the order to read it.
pub mod Told
pub mod Promises
pub mod Steps
