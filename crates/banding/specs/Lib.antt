-- What a report of bands answers.
pub mod Answered
