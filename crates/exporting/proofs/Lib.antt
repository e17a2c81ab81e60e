-- What is known of an export that nothing refuses, and how it ends.
pub mod Exportable
pub mod Ends
