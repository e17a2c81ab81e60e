-- Keys in order. `sorted_of` forgets the order in which keys stand, so it says which keys a list has, and how often: what a heap holds is
-- read by it.
use Rattle.std.specs.Prelude.{List, ℕ, leb}
use Rattle.integer.specs.Sorting.{sorted_with, poured_by, sorted_by}

-- a key put before the first that is not below it
abbrev pub insert_key : ℕ → List ℕ → List ℕ
insert_key = sorted_with leb

-- keys put into a list one by one
abbrev pub pour : List ℕ → List ℕ → List ℕ
pour = poured_by leb

-- keys, the least first
abbrev pub sorted_of : List ℕ → List ℕ
sorted_of = sorted_by leb
