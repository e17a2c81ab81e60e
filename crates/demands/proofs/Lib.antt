-- A call by its contract follows its definition, and the theorem.
pub mod Follows
pub mod Replies
pub mod Theorem
