-- What the remote's call answers.
pub mod Answered
