-- What the contracts of `load` cite, in the order to read it.
pub mod Parts
pub mod Load
pub mod Promises
pub mod Instances
pub mod Steps
