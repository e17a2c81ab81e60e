-- The formats, the samples and the labels that bytes are, and how bytes are added up for the check.
pub mod Formats
pub mod Codes
pub mod LabelCodes
pub mod Columns
