-- What the contracts of `lines` cite, in the order to read it.
pub mod Words
pub mod Lines
pub mod Steps
