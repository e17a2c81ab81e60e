-- What storing a batch's records leaves.
pub mod Over
pub mod AnswerRecords
