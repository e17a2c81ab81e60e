-- A leaf's figures as code takes and keeps them, in arrays of its own.
pub mod Taken
pub mod Ranged
pub mod Placed
pub mod Totals
pub mod Listing
pub mod Filled
