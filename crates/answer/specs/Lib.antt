-- What the contracts of `answer` cite, in the order to read it.
pub mod Text
pub mod Answer
pub mod Promises
pub mod Worked
