-- What each call refuses, answers and leaves in every lent place, on tables that hold anything: the equations that the calls' contracts
-- cite.
pub mod Outcome
pub mod Numbers
pub mod Library
pub mod Trusted
pub mod Effects
pub mod Follows
pub mod Remote
pub mod Trails
pub mod Pairs
pub mod Demands
