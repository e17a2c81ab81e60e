-- Laws of the definitions that the functions' proofs and the crates above share.
pub mod Scatter
pub mod Apart
pub mod Newton
pub mod Sums
pub mod Stored
pub mod Steps
pub mod Fewest
pub mod Limits
pub mod Bound
pub mod Examples
pub mod Upper
pub mod Clipped
pub mod ClippedSteps
