-- What is known of a trace's sums.
pub mod Prefixes
