-- A node's kind by its number in the record.
use Rattle.std.specs.Prelude.{ℕ}
use Rattle.tables.specs.declared.kinds.Kind.{Kind}
use Rattle.tables.specs.declared.kinds.Kind.TheVariants as k

-- "0 a leaf, 1 an inner node by sum, 2 an inner node by scatter"
abbrev pub number_of : Kind → ℕ
number_of k.Leaf = 0
number_of k.BySum = 1
number_of k.ByScatter = 2
