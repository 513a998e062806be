-- What the contracts of `ways` cite, in the order to read it.
pub mod Ways
pub mod Instances
