-- What the code of recordings answers, and what it takes.
pub mod FileTraces
pub mod HoldsTrace
pub mod Sections
