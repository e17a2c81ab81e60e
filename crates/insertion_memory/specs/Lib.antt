-- What adding does to the lent tables, place by place. What it means is document 01's `insertion`: `proofs/Meaning`.
pub mod Records
pub mod Links
pub mod Memory
pub mod Represents
pub mod Takes
