-- What is known of an import that nothing refuses, and what it answers.
pub mod Answers
pub mod Takes
