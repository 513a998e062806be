-- What the contracts of `file_ways` cite.
pub mod Probes
pub mod Calls
