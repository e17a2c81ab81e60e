-- What is known of a match with a limit that nothing refuses, and what it leaves.
pub mod Conditions
pub mod Answers
