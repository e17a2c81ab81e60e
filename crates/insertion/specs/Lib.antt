-- What the code of adding needs said of records: how one is widened segment by segment, the way down by records, and the heads that are
-- written.
pub mod Widening
pub mod Way
pub mod Heads
