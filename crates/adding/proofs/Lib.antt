pub mod Conditions
pub mod Sized
pub mod Ready
pub mod Joins
