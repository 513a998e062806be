-- The laws behind the promises of this crate.
pub mod Settings
pub mod Points
pub mod Answering
