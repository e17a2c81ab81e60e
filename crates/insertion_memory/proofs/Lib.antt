-- Nodes and links that stand for a tree, through each step of adding; what adding means, that it keeps tables well formed, and that it
-- does the same in a longer memory.
pub mod ReadBack
pub mod Following
pub mod Placing
pub mod Represents
pub mod Widening
pub mod Joining
pub mod Splitting
pub mod Storing
pub mod FromTables
pub mod First
pub mod Meaning
pub mod Made
pub mod Keeps
pub mod Beginnings
pub mod Longer
pub mod AddedBeginnings
pub mod Labels
