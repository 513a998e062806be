-- What the contracts of `embed` cite, in the order to read it.
pub mod Embed
pub mod Parts
pub mod Written
pub mod Promises
