-- The check of tables: where the traces below each node stand, their figures, and what the check answers.
pub mod Laid
pub mod Answered
