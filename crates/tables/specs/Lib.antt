-- The lent tables as lists, what they stand for, and what the calls answer. docs/LAYOUT.md is this in prose.
pub mod Layout
pub mod Tables
pub mod Lent
pub mod View
pub mod Judge
pub mod Answers
pub mod Shared
pub mod Beginning
pub mod Walk
pub mod Nodes
pub mod Runs
pub mod Holds
pub mod Kinds
