-- Why the next leaf of one library is handed on, how far, and what reading it gives; the turns of both; and what the search leaves.
pub mod Asking
pub mod Nearer
pub mod OneLeaf
pub mod Whose
pub mod Taken
pub mod FirstLeaf
pub mod SideTurns
pub mod BothTurns
pub mod Wins
pub mod Lending
pub mod Joined
