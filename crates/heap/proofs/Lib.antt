-- Laws of keys in order (Sorting, Bags), and of the three steps of a heap: Rising for `push`, Sinking and Popping for `pop`.
pub mod Sorting
pub mod Bags
pub mod Shape
pub mod Rising
pub mod Sinking
pub mod Popping
