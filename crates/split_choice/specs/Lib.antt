-- The choice of a leaf's split: the best candidate so far.
pub mod Choosing
