-- What importing answers.
pub mod Answered
