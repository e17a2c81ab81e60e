-- A leaf's candidates as code tries them: cuts, halves, and the best of those tried.
pub mod Cuts
pub mod Tried
pub mod Halved
pub mod Going
pub mod Unparted
pub mod Examples
