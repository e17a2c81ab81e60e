-- Figures joined, segments found in a child's record, and tests in a row.
pub mod Joining
pub mod Segments
pub mod Steps
