-- What block 0 says.
use Rattle.std.specs.Prelude.{ℕ, ◌≡◌, List}
use Rattle.dstree.specs.Measures.{measures}
use Rattle.dstree.specs.Sheet.{measures_in, count_in}

-- these are its measures and its count
pub record HeadSays (block : List ℕ) (n capacity leaf_size count : ℕ) : Type 0 where
  pub measures_are : measures_in block ≡ measures n capacity leaf_size
  pub count_is : count_in block ≡ count
