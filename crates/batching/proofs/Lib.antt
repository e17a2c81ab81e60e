-- Tables and a batch of which nothing is refused, and what its search leaves.
pub mod Taken
pub mod Answers
