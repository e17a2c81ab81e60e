-- What an exported call hands to a caller in another language.
pub mod COutcome
