-- What a batch asks of the tables, what it keeps while it searches, and what it leaves.
pub mod Batched
