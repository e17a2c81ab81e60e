-- What a search asks of the tables, and what it leaves.
pub mod Searched
pub mod Lent
