-- The nearest traces so far, as code keeps them, and the distances of stored traces.
pub mod Nearest
pub mod Listed
