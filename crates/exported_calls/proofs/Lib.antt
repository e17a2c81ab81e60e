-- An exported call by its contract follows its definition, and the theorem.
pub mod Follows
pub mod Linked
pub mod Parts
pub mod Theorem
