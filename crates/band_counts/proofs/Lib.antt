-- Edges reached, counts in a list, the turns of the loop over the nodes, and the report that they end in.
pub mod Reached
pub mod Counts
pub mod Turns
pub mod Taken
pub mod Places
pub mod Ready
