-- What the contracts of `inspect` cite, in the order to read it.
pub mod Consequences
pub mod Batch
pub mod Inspect
pub mod Lent
pub mod Once
pub mod Run
pub mod Promises
pub mod Steps
