-- What is known of ready tables, the turns of the loop, search work set to zero, a search of all leaves, and the match as the one nearest.
pub mod Facts
pub mod Turns
pub mod Cleared
pub mod Whole
pub mod One
