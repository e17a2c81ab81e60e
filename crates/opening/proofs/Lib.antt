-- What is known of an opening that nothing refuses, and what it leaves.
pub mod Answered
