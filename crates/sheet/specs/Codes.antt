-- The samples that bytes are.
use Rattle.std.specs.Prelude.{ℕ, List, map, ℤ}
use Rattle.dstree.specs.Sheet.{Format, pieces, decoded}

-- so many samples of a format, by their bytes
unfoldable pub samples_in : Format → ℕ → List ℕ → List ℤ
samples_in f k bytes = map (decoded f) (pieces f.sample_bytes k bytes)
