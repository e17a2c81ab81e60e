-- Storing records in the caller's list, and the batch with its list.
pub mod Over
pub mod Whole
