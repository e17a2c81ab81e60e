-- What a match answers.
pub mod Answered
