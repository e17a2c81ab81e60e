-- What is known of two libraries of which nothing is refused, what a match over them leaves, and what its equation says of its answer;
-- when a table holds a trace.
pub mod Conditions
pub mod Answers
pub mod Told
pub mod Held
