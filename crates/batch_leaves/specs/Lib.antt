-- A leaf read for all queries of a batch.
pub mod LeavesRead
