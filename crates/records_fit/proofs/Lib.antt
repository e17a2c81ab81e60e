-- The rules for records as loops test them: figures, segments, heads, a node and its children.
pub mod Limits
pub mod Segments
pub mod Heads
pub mod Loops
pub mod Children
