-- What a match with a limit answers.
pub mod Answered
