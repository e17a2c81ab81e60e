-- Tables that refuse nothing of some traces take the next one.
pub mod Takes
