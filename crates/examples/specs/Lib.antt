-- What the steps of an example begin with, and what is done to a sheet.
pub mod Steps
