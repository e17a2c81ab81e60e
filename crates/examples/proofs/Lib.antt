-- Lists in parts; what stays through two calls.
pub mod Parts
pub mod Stays
