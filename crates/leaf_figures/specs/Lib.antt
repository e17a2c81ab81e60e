-- The figures of a leaf's traces on a run, the node's right ends, and the spread over them.
pub mod Sides
pub mod Ends
pub mod Listed
pub mod Rows
