-- The rules for whole tables, and what a first look at records shows.
pub mod Whole
pub mod Visits
