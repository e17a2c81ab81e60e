-- Edges that rise, one after another; 2 to 16 of them.
use Prim.Native.Nat.{ℕ, zero, suc, ◌-◌, ◌≤◌, ◌<◌}
use mathlib.Core.Path.{◌≡◌, refl, subst}
use mathlib.Core.Bool.{true, false, ◌&&◌}
use mathlib.Core.List.{List, [], ◌∷◌}
use native.Mathlib.Omega.{arith}
use lib.ListN.{length, get_or, drop}
use lib.Dec.{ltb}
use borrow.Author.Tests.{le-leb, lt-leb}
use Rattle.dstree.specs.WellFormed.{rising}
use Rattle.dstree.specs.Bands.{is_edges}

-- ---- their number

pub too_few : (edges : List ℕ) → length edges < 2 → is_edges edges ≡ false
unfolding is_edges
too_few edges h = rw (lt-leb 2 (length edges) h)

pub too_many : (edges : List ℕ) → 2 ≤ length edges → 16 < length edges → is_edges edges ≡ false
unfolding is_edges
too_many edges h k = rw (le-leb 2 (length edges) h, lt-leb (length edges) 16 k)

pub by_rising : (edges : List ℕ) → 2 ≤ length edges → length edges ≤ 16 → is_edges edges ≡ rising edges
unfolding is_edges
by_rising edges h k = rw (le-leb 2 (length edges) h, le-leb (length edges) 16 k)

-- ---- one after another

next : (edges : List ℕ) (i : ℕ) → suc i < length edges
    → rising (drop i edges) ≡ (ltb (get_or edges i 0) (get_or edges (suc i) 0) && rising (drop (suc i) edges))
unfolding rising
next [] i h = absurd (omega arith)
next (a ∷ []) i h = absurd (omega arith)
next (a ∷ (b ∷ rest)) zero h = refl
next (a ∷ (b ∷ rest)) (suc i) h = next (b ∷ rest) i (omega arith)

-- those from the edge before on rise if this one is above it and those from this one on do
pub rising_next : (edges : List ℕ) (i : ℕ) → 1 ≤ i → i < length edges
    → rising (drop (i - 1) edges) ≡ (ltb (get_or edges (i - 1) 0) (get_or edges i 0) && rising (drop i edges))
rising_next edges i h k =
    let e : suc (i - 1) ≡ i = omega arith in
    subst (λ (j : ℕ). rising (drop (i - 1) edges) ≡ (ltb (get_or edges (i - 1) 0) (get_or edges j 0) && rising (drop j edges))) e
    (next edges (i - 1) (omega arith))

last : (edges : List ℕ) (i : ℕ) → suc i ≡ length edges → rising (drop i edges) ≡ true
unfolding rising
last [] i h = absurd (omega (arith, h))
last (a ∷ []) zero h = refl
last (a ∷ []) (suc i) h = absurd (omega (arith, h))
last (a ∷ (b ∷ rest)) zero h = absurd (omega (arith, h))
last (a ∷ (b ∷ rest)) (suc i) h = last (b ∷ rest) i (omega (arith, h))

-- .. and the last one does
pub rising_last : (edges : List ℕ) (i : ℕ) → 1 ≤ i → i ≡ length edges → rising (drop (i - 1) edges) ≡ true
rising_last edges i h e = last edges (i - 1) (omega (arith, h, e))
