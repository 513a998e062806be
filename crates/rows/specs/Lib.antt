-- What the contracts of `rows` cite, in the order to read it.
pub mod Row
pub mod Count
pub mod Decisions
pub mod Flat
pub mod Calls
pub mod Triangular
pub mod Promises
