-- What is returned of each answer.
pub mod Answers
