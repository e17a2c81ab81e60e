-- The heads of records as code writes them.
use Rattle.std.specs.Prelude.{ℕ, List, [], ◌∷◌, ℤ, pos}
use Rattle.dstree.specs.Node.{Segment}

-- a leaf's seven places, by its number of segments and its first trace
abbrev pub leaf_head : ℕ → ℕ → List ℤ
leaf_head segments first = pos 0 ∷ pos segments ∷ pos first ∷ pos 0 ∷ pos 0 ∷ pos 0 ∷ pos 0 ∷ []

-- a segment, by its five parts
abbrev pub segment_of_parts : ℕ → ℤ → ℤ → ℕ → ℕ → Segment
segment_of_parts end least_sum greatest_sum least_scatter greatest_scatter =
    record { end = end; least_sum = least_sum; greatest_sum = greatest_sum; least_scatter = least_scatter; greatest_scatter = greatest_scatter }
