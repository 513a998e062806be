-- What the contracts of `ffi` cite.
pub mod Answers
pub mod Files
