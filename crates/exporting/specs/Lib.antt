-- What exporting a trace answers.
pub mod Answered
