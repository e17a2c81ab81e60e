-- Why the passes find what is defined, tables that possible matches may be listed of, and what the call leaves.
pub mod Crossed
pub mod Smallest
pub mod Listed
pub mod Conditions
pub mod Answers
