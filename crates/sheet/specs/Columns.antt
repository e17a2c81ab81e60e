-- Bytes in rows of 64, added up by columns.
use Rattle.std.specs.Prelude.{ℕ, ◌+◌, ◌*◌, ◌≤◌, ◌≡◌, List, [], ◌∷◌, length, get_or}

-- how many bytes a row has
abbrev pub columns : ℕ
columns = 64

-- numbers with others added, as many as there are of these
unfoldable pub added_up : List ℕ → List ℕ → List ℕ
added_up [] more = []
added_up (x ∷ xs) [] = x ∷ xs
added_up (x ∷ xs) (y ∷ ys) = (x + y) ∷ added_up xs ys

abbrev pub EachAtMost : ℕ → List ℕ → Type 0
EachAtMost most xs = (i : ℕ) → get_or xs i 0 ≤ most

-- more than eight rows make of one column: eight bytes, and each of them once for each of seven rows
abbrev pub most_sum : ℕ
most_sum = 2048

abbrev pub most_later : ℕ
most_later = 16384

-- the columns of so many rows or fewer
pub record ColumnSums (sums later : List ℕ) : Type 0 where
  pub sums_long : length sums ≡ columns
  pub later_long : length later ≡ columns
  pub sums_small : EachAtMost most_sum sums
  pub later_small : EachAtMost most_later later

-- the most that one of them adds to the check's total
abbrev pub column_weight : ℕ
column_weight = columns * most_sum + columns * most_later
