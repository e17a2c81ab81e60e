-- Why a batch finds what the steps give.
pub mod Visits
pub mod Sweeps
