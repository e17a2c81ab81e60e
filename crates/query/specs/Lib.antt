-- What is known of a node's record that gets a bound or an upper figure.
pub mod Bounded
