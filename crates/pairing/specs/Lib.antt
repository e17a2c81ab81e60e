-- What a match over two libraries answers, and the part of a table that it hands back.
pub mod Answered
pub mod Parts
