-- Edges that rise, tables that a report may be made of, and what it leaves.
pub mod Rising
pub mod Conditions
pub mod Answers
