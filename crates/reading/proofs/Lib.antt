-- Records of a list as code changes them and as places of memory, the walk along a leaf's traces, and what reading a leaf means.
pub mod Records
pub mod Places
pub mod Walked
pub mod Meaning
