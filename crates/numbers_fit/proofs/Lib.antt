-- Why the test by marks is the rule on numbers.
pub mod Growth
pub mod Chains
pub mod ByKind
pub mod Once
pub mod Naming
pub mod Taking
pub mod Holding
