-- A sheet as it is filled block by block, and how writing ends.
pub mod Runs
pub mod Zeros
pub mod BlockByBlock
pub mod Stored
pub mod Conditions
pub mod Ends
