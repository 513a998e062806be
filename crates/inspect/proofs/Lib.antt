-- The laws behind the promises and the contracts of this crate.
pub mod Fits
pub mod Lent
pub mod Once
pub mod Lists
pub mod Overlaps
pub mod Readings
pub mod Visits
pub mod Gathering
pub mod Opens
pub mod Applying
pub mod Following
pub mod Batches
pub mod Inspections
pub mod Runs
pub mod Inspecting
