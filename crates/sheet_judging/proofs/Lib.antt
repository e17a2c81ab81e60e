-- What a sheet's head says, what is bad in it, and the traces and labels of an accepted one.
pub mod Heads
pub mod Bad
pub mod Samples
pub mod Ranged
pub mod LabelsIn
