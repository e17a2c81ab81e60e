-- How a trace joins a leaf, record by record: the way down, records widened, the end of a list, the first leaf.
pub mod Chain
pub mod Plain
pub mod Widened
pub mod First
pub mod Down
