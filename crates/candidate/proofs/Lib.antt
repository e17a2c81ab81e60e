-- A candidate's sides as code takes them, and whether both are seen.
pub mod Marked
pub mod Sided
pub mod Seen
pub mod Threshold
