-- The program's line, as its steps write it and as the definition has it.
pub mod Digits
pub mod Texts
pub mod Judged
pub mod Matched
pub mod Room
