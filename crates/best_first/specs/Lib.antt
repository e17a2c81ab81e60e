-- The key that a node waits by, what the order of reading asks of a tree, and the leaves that waiting keys stand for.
pub mod NodeKeys
pub mod Branching
pub mod Waiting
