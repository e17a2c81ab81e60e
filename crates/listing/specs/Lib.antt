-- What a listing answers.
pub mod Answered
