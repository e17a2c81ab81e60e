pub mod Begins
pub mod Put
pub mod HoldsTrace
pub mod Words
