-- How the bench's call ends.
pub mod Ends
