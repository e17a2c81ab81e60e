-- One candidate for a leaf's split: what it stands for, its sides, and whether both are seen.
pub mod Marking
pub mod Siding
pub mod Parting
pub mod Trials
pub mod Leaves
