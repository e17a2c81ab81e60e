-- Why leaves come out in order: the tree (Branching), what is below a node (Subtree, Gather), the keys that wait (Order), keys and leaves
-- (Reading). Trees that differ only in what leaves hold have the same order (Alike).
pub mod Branching
pub mod Alike
pub mod Subtree
pub mod Gather
pub mod Order
pub mod Reading
