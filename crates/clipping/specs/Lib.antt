-- What a clipped sweep finds among stored traces, and what the call answers.
pub mod Compared
pub mod Answered
