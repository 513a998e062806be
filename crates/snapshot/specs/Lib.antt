-- What the contracts of `snapshot` cite, in the order to read it.
pub mod Knowledge
pub mod Touch
pub mod Promises
pub mod Steps
