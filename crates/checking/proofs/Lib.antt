-- Traces below every node laid out in one array, and why comparing them node by node is the check.
pub mod Put
pub mod ByKind
pub mod Sizing
pub mod Starting
pub mod Laying
pub mod Trusted
pub mod Ends
