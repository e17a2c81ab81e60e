-- Which layout of the tables the exported calls are for.
pub mod Layout
