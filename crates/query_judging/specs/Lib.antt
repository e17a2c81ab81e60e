-- The leaves that a search's trail has to have room for, as code counts them.
pub mod LeafCount
