-- What the contracts of `index` cite, in the order to read it.
pub mod Index
pub mod Column
