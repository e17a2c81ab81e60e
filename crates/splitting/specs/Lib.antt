-- What splitting needs said of records, sides and tables.
pub mod Leaves
pub mod Splits
pub mod Represented
