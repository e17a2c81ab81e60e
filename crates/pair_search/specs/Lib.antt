-- One of two libraries that are searched together, as code keeps it; a turn of both; and what the whole search asks and leaves.
pub mod Sides
pub mod Limits
pub mod Reading
pub mod Advancing
pub mod Turns
pub mod Stepping
pub mod BothSearched
pub mod Visiting
pub mod Winning
