-- How a program keeps a report of bands: by how many edges figures have reached, in search work and in the caller's list.
pub mod Reached
pub mod Counted
pub mod Reported
