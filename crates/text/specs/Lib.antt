-- What the contracts of `text` cite, in the order to read it.
pub mod Text
pub mod Puts
pub mod Promises
