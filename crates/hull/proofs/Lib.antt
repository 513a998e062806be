-- Laws on plain values: first those behind the promises, which other crates may cite too, then those of the code.
pub mod Dot
pub mod Counts
pub mod Spans
pub mod Within
pub mod Even
pub mod Allowed
pub mod Smallest
pub mod Chosen
pub mod Exact
pub mod Only
pub mod Turns
pub mod Filed
pub mod Numbers
pub mod Placed
pub mod Spanned
pub mod Listed
pub mod Told
