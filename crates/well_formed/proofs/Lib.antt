-- Why the tests together are the definition of well-formed tables.
pub mod Counts
pub mod Looking
pub mod Equal
pub mod Refused
