-- Rows laid one behind another.
pub mod Laid
