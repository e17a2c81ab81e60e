-- What adding answers, and tables that take a trace.
pub mod Answered
pub mod Putting
