-- What the definitions of `dstree` give at small values, by computation: whole trees of an independent implementation, exercises under
-- document 01's headings, and document 02's batches, recordings, check, bands, limits and clipped sweeps; and a law of one damaged block.
-- Examples that an edit of a definition needs stand in `dstree`.
pub mod Cases
pub mod Exercises
pub mod BatchExamples
pub mod RecordingExamples
pub mod CheckingExamples
pub mod BandExamples
pub mod BandCases
pub mod LimitExamples
pub mod LimitCases
pub mod ClippedExamples
pub mod ClippedCases
pub mod OneByte
