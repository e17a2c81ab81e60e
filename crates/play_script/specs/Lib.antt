-- The scripts that are played.
pub mod Rows
