-- What a sheet that is not refused holds, and how reading ends.
pub mod Ends
pub mod Library
pub mod Steps
