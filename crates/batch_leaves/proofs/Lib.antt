-- Why a leaf read once is one of those read, for every query.
pub mod Runs
pub mod Bests
pub mod Marks
pub mod Kept
