-- What the bench's call answers.
pub mod Answered
