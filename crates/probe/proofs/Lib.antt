-- The laws behind the promises and the contracts of this crate.
pub mod Meanings
pub mod Undecided
pub mod Pivoted
pub mod Tallies
pub mod Probing
pub mod Counted
pub mod Agreed
pub mod Opening
pub mod OpenRows
pub mod Reducing
pub mod OpenedRows
pub mod Independent
