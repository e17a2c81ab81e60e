-- The leaves of a table of records, as code counts them: by the kind field alone.
use Rattle.std.specs.Prelude.{ℕ, Bool, List, [], ℤ, length, if◌then◌else◌}
use Rattle.integer.specs.Words.{those, counting}
use Rattle.dstree.specs.Matching.{is_leaf_kind}
use Rattle.tables.specs.Layout.{kind_place}
use Rattle.tables.specs.Tables.{record_of}
use Rattle.tables.specs.View.{small_at, kind_in}

-- record j is a leaf's. Which traces are in it does not matter
abbrev pub leaf_in : List ℤ → ℕ → Bool
leaf_in nodes j = is_leaf_kind (kind_in [] 0 (record_of nodes j) (small_at (record_of nodes j) kind_place))

abbrev pub one_if : Bool → ℕ
one_if b = if b then 1 else 0

-- how many of m records from j on are leaves
abbrev pub leaf_count : List ℤ → ℕ → ℕ → ℕ
leaf_count nodes m j = length (those (leaf_in nodes) (counting m j))
