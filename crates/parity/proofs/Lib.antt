-- The laws behind the promises and the contracts of this crate.
pub mod Usable
pub mod Whole
pub mod Leaving
pub mod Telling
pub mod Refit
pub mod Marking
pub mod Visiting
pub mod Naming
pub mod Columns
pub mod InOrder
pub mod Ordinals
pub mod Unit
pub mod Collecting
