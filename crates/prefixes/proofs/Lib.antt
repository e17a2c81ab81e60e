-- Prefix sums as they are filled in, and the figures of a run by them.
pub mod Passed
pub mod Cut
