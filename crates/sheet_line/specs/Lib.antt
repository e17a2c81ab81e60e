-- What the program refuses, what it answers, and the line that is written of it.
pub mod Conditions
pub mod Lines
pub mod Stored
