-- What the contracts of `format` cite, in the order to read it.
pub mod Bytes
pub mod Kind
pub mod Format
pub mod Starts
