-- How a script is played: rows read back, the calls that they ask for, the state that these leave; and that every list of calls has one.
pub mod ReadBack
pub mod OfKind
pub mod Asking
pub mod Lending
pub mod Moves
pub mod Played
pub mod Scripts
