-- How the remote's call ends.
pub mod Ends
