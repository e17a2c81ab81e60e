-- The rules for one record, for a node and its child, and for all records in use.
pub mod Fits
