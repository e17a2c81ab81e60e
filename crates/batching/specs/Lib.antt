-- What a batch answers, and what it leaves in the caller's list.
pub mod Answered
