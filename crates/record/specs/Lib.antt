-- What the contracts of `record` cite, in the order to read it.
pub mod Fault
pub mod Form
pub mod Fields
