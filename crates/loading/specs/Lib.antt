-- The traces that bytes hold, and what has to hold so that they can be added.
pub mod Loads
