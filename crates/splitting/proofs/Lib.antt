-- A leaf that splits: its list parted, its children's records written, and nodes and links that stand for the tree after it.
pub mod Walks
pub mod Written
pub mod Tried
pub mod Kept
