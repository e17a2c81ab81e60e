-- Two scripts, row by row: each number of a row behind how many there are, as `replay` reads them.
use Rattle.std.specs.Prelude.{ℕ, ◌+◌, List, [], ◌∷◌, length}
use Rattle.std.proofs.Math.Seq.{paste}

-- n = 4, capacity 3, leaf size 2: tables of 5, 12, 435, 3, 5 and 3 places. An opening with a leaf size of 65, and one that is not
-- refused; a match with no trace stored; an adding of three samples
abbrev pub opened_rows : List (List ℕ)
opened_rows =
    (10 ∷ 0 ∷ 5 ∷ 12 ∷ 435 ∷ 3 ∷ 5 ∷ 3 ∷ 4 ∷ 3 ∷ 65 ∷ [])
    ∷ (10 ∷ 0 ∷ 5 ∷ 12 ∷ 435 ∷ 3 ∷ 5 ∷ 3 ∷ 4 ∷ 3 ∷ 2 ∷ [])
    ∷ (9 ∷ 2 ∷ 5 ∷ 12 ∷ 435 ∷ 3 ∷ 5 ∷ 3 ∷ 4 ∷ 1 ∷ [])
    ∷ (8 ∷ 1 ∷ 5 ∷ 12 ∷ 435 ∷ 3 ∷ 5 ∷ 3 ∷ 3 ∷ [])
    ∷ []

-- .. then A, B and C, and one trace more than the capacity; a writing, and one that is lent a byte too few
abbrev pub filled_rows : List (List ℕ)
filled_rows =
    (8 ∷ 1 ∷ 5 ∷ 12 ∷ 435 ∷ 3 ∷ 5 ∷ 3 ∷ 4 ∷ [])
    ∷ (8 ∷ 1 ∷ 5 ∷ 12 ∷ 435 ∷ 3 ∷ 5 ∷ 3 ∷ 4 ∷ [])
    ∷ (8 ∷ 1 ∷ 5 ∷ 12 ∷ 435 ∷ 3 ∷ 5 ∷ 3 ∷ 4 ∷ [])
    ∷ (8 ∷ 1 ∷ 5 ∷ 12 ∷ 435 ∷ 3 ∷ 5 ∷ 3 ∷ 4 ∷ [])
    ∷ (8 ∷ 3 ∷ 5 ∷ 12 ∷ 435 ∷ 3 ∷ 5 ∷ 3 ∷ 1024 ∷ [])
    ∷ (8 ∷ 3 ∷ 5 ∷ 12 ∷ 435 ∷ 3 ∷ 5 ∷ 3 ∷ 1023 ∷ [])
    ∷ []

-- a reading of the sheet that was written; three matches, the last with a trail for one leaf of two; a reading of a block of junk; a match
abbrev pub read_rows : List (List ℕ)
read_rows =
    (8 ∷ 4 ∷ 5 ∷ 12 ∷ 435 ∷ 3 ∷ 5 ∷ 3 ∷ 1024 ∷ [])
    ∷ (9 ∷ 2 ∷ 5 ∷ 12 ∷ 435 ∷ 3 ∷ 5 ∷ 3 ∷ 4 ∷ 2 ∷ [])
    ∷ (9 ∷ 2 ∷ 5 ∷ 12 ∷ 435 ∷ 3 ∷ 5 ∷ 3 ∷ 4 ∷ 2 ∷ [])
    ∷ (9 ∷ 2 ∷ 5 ∷ 12 ∷ 435 ∷ 3 ∷ 5 ∷ 3 ∷ 4 ∷ 1 ∷ [])
    ∷ (8 ∷ 4 ∷ 5 ∷ 12 ∷ 435 ∷ 3 ∷ 5 ∷ 3 ∷ 512 ∷ [])
    ∷ (9 ∷ 2 ∷ 5 ∷ 12 ∷ 435 ∷ 3 ∷ 5 ∷ 3 ∷ 4 ∷ 2 ∷ [])
    ∷ []

-- rows laid one behind another, from a place on
unfoldable pub rows_laid : List (List ℕ) → ℕ → List ℕ → List ℕ
rows_laid [] at l = l
rows_laid (row ∷ rows) at l = rows_laid rows (at + length row) (paste l at row (length row))
