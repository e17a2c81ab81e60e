-- Rows laid one behind another: the first, then the others.
use Prim.Native.Nat.{ℕ, ◌+◌}
use mathlib.Core.Path.{◌≡◌, refl, ap, ◌∙◌}
use mathlib.Core.List.{List, [], ◌∷◌}
use lib.ListN.{length}
use lib.Seq.{paste}
use Rattle.play_script.specs.Rows.{rows_laid}

pub laid_none : (at : ℕ) (l : List ℕ) → l ≡ rows_laid [] at l
unfolding rows_laid
laid_none at l = refl

pub laid_more : (row : List ℕ) (rows : List (List ℕ)) (at : ℕ) (l first after : List ℕ) → first ≡ paste l at row (length row)
    → after ≡ rows_laid rows (at + length row) first → after ≡ rows_laid (row ∷ rows) at l
unfolding rows_laid
laid_more row rows at l first after e f = f ∙ ap (rows_laid rows (at + length row)) e
