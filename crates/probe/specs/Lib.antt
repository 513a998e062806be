-- What the contracts of `probe` cite, in the order to read it.
pub mod Elimination
pub mod Promises
pub mod Probe
pub mod Steps
