-- Nodes get their sizes from the last one down.
use mathlib.Core.Path.{◌≡◌, sym, ap, ◌∙◌}
use mathlib.Core.List.{List}
use Prim.Native.Nat.{ℕ, ◌+◌, ◌≤◌, ◌<◌}
use native.Mathlib.Omega.{arith}
use lib.ListN.{length, get_or, set, length-set}
use lib.Seq.{get_or-set_same, get_or-set_other}
use Rattle.integer.proofs.Lists.{same_or_not, strict}
use Rattle.dstree.specs.Node.{Tree}
use Rattle.dstree.specs.Checking.{traces_below}
use Rattle.checking.specs.Laid.{SizesLaid}

pub sized_none : (tree : Tree) (sizes : List ℕ) (from : ℕ) → length sizes ≡ 8192 → length tree ≤ from → SizesLaid tree sizes from
sized_none tree sizes from places h = record { places = places; sized = λ j g k. absurd (omega arith) }

pub sized_more : (tree : Tree) (sizes : List ℕ) (j : ℕ) → j < length sizes → SizesLaid tree sizes (j + 1)
    → SizesLaid tree (set sizes j (length (traces_below tree j))) j
sized_more tree sizes j room old = record {
  places = length-set sizes j (length (traces_below tree j)) ∙ old.places;
  sized = λ i h g. by i h g (same_or_not i j);
}
  where
    by : (i : ℕ) → j ≤ i → i < length tree → Dec (i ≡ j) → get_or (set sizes j (length (traces_below tree j))) i 0 ≡ length
        (traces_below tree i)
    by i h g (yes e) =
        ap (λ (x : ℕ). get_or (set sizes j (length (traces_below tree j))) x 0) e
        ∙ (get_or-set_same sizes j (length (traces_below tree j)) 0 room ∙ ap (λ (x : ℕ). length (traces_below tree x)) (sym e))
    by i h g (no f) = get_or-set_other sizes j i (length (traces_below tree j)) 0 f ∙ old.sized i
        (omega (arith, strict h (λ e. f (sym e)))) g
