-- What writing a sheet answers, and what it leaves block by block.
pub mod Filled
pub mod Answered
