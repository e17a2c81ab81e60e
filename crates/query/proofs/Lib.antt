-- A node's own bound, and that the records of well-formed tables may be asked for it.
pub mod Own
pub mod FromRules
