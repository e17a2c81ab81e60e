-- What the call that opens a library answers.
pub mod Opened
