-- What the contracts of `hull` cite, in the order to read it.
pub mod Table
pub mod Equations
pub mod Propose
pub mod Promises
pub mod Steps
