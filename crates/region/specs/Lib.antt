-- What the contracts of `region` cite, in the order to read it.
pub mod Masks
pub mod Visit
pub mod Calls
pub mod Promises
