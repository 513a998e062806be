-- The laws behind the promises and the contracts of this crate.
pub mod Choices
pub mod Digits
pub mod Small
pub mod Systems
pub mod Refusals
pub mod Lengths
pub mod Fits
pub mod Taken
pub mod Written
