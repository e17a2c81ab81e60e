-- Replies as rows of numbers, laid down one after another.
use Rattle.std.specs.Prelude.{ℕ, suc, ◌*◌, ◌/◌, List, [], ◌∷◌, length, ltb, if◌then◌else◌}
use Rattle.std.proofs.Math.Seq.{paste}
use Rattle.dstree.specs.Book.{Answer}
use Rattle.calls.specs.Numbers.{code_of, values_of, laid}

-- ---- replies, row by row

-- places of a reply's row: the code, and four places for the values
abbrev pub reply_places : ℕ
reply_places = 5

-- zeros behind the values
unfoldable pub reply_row : Answer → List ℕ
reply_row a = code_of a ∷ laid (values_of a) (0 ∷ 0 ∷ 0 ∷ 0 ∷ [])

-- row k of a slice of replies, replaced; a slice that has no such row stays
unfoldable pub with_row : List ℕ → ℕ → List ℕ → List ℕ
with_row l k row = if ltb k (length l / reply_places) then paste l (k * reply_places) row reply_places else l

-- replies laid down one after another, from row k on
unfoldable pub replies_laid : List Answer → ℕ → List ℕ → List ℕ
replies_laid [] k l = l
replies_laid (a ∷ rest) k l = replies_laid rest (suc k) (with_row l k (reply_row a))
