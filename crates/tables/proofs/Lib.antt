-- What holds of lent tables, whatever call works on them: fields and records, lists by links, what they stand for, their first places.
pub mod Frame
pub mod Small
pub mod Range
pub mod Judged
pub mod Passed
pub mod Beginning
pub mod Views
pub mod Listed
pub mod Parts
pub mod Compared
pub mod Samples
pub mod Linked
pub mod ByKind
pub mod Labels
pub mod Fill
