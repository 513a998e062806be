-- The laws behind the promises of this crate.
pub mod Handed
pub mod Lasting
pub mod Unrefused
pub mod Settling
