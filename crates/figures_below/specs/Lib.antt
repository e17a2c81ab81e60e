-- Figures of the traces below a node, and records that have exactly these.
pub mod Compared
