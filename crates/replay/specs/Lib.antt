-- Scripts of calls, what a script asks for, what holds after it, and which lists of calls have one.
pub mod ReplyRows
pub mod Script
pub mod Demanded
pub mod Scripts
