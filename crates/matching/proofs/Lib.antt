-- What is known of a match that nothing refuses, and what it leaves.
pub mod Conditions
pub mod Answers
