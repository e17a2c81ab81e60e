-- k in its range, tables that may be searched, and what a search leaves.
pub mod Range
pub mod Conditions
pub mod Answers
