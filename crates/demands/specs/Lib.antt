-- What calls of the code did, by their own contracts, and the theorem: the demands hold of them.
pub mod Did
pub mod Theorem
