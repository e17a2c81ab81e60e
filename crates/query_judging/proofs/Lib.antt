-- Leaves counted, and what it says of tables and a query that a search refuses nothing.
pub mod Counted
pub mod Taken
