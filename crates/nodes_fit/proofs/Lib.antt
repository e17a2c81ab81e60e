-- Ends of a child among its parent's as loops test them: of one child, and of two with the same ends.
pub mod Merging
pub mod Ends
pub mod Siblings
