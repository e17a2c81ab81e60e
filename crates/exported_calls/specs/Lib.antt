-- What exported calls did, by their own contracts, and the theorem: they follow the definitions of which the demands hold.
pub mod Did
pub mod Theorem
