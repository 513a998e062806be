-- What the contracts of `parity` cite, in the order to read it.
pub mod Basis
pub mod Prepare
pub mod Promises
pub mod Named
pub mod Visit
pub mod Entered
pub mod Unit
