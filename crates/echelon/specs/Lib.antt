-- What the contracts of `echelon` cite, in the order to read it.
pub mod Forward
pub mod Eliminate
pub mod Promises
pub mod Steps
