-- Keys in order, what the calls on a heap of them leave, and the lent places that it lies in.
pub mod Keys
pub mod Heap
pub mod Lent
