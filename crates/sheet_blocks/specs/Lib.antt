-- The blocks of a sheet of any bytes, each at its place, and where its samples stand.
pub mod Blocks
pub mod Traces
