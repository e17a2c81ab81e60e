-- Along a leaf's list: the traces with a mark that are still to come, an array that they are listed in, and a list that is laid link by
-- link.
use mathlib.Core.Path.{◌≡◌, refl, ap}
use mathlib.Core.List.{List, [], ◌∷◌}
use Prim.Native.Nat.{ℕ, suc, ◌≤◌, ◌<◌}
use native.Mathlib.Omega.{arith}
use lib.ListN.{length, get_or, set, drop, drop_of_length-le}
use lib.Seq.{drop-cons}
use lib.Dec.{eqb}
use Rattle.integer.specs.Words.{those}
use Rattle.integer.proofs.Lists.{In, from_those}
use Rattle.tables.specs.Walk.{Rising, behind_of, numbers_of}
use Rattle.leaf_figures.specs.Sides.{marked}
use Rattle.tables.proofs.Listed.{met_from, met_more, met_end, numbers_below}
use Rattle.candidate.proofs.Sided.{with_one}
use Rattle.insertion_memory.specs.Links.{linked}

pub side_more : (links : List ℕ) (k : ℕ) → Rising links k → (marks : List ℕ) (mark : ℕ) (t : ℕ) → t < k
    → marked marks mark (met_from links k t) ≡ with_one (eqb (get_or marks t 0) mark) t (marked marks mark (met_from links k (behind_of links k t)))
unfolding those
side_more links k rising marks mark t h = ap (marked marks mark) (met_more links k rising t h)

-- ---- a list laid link by link

pub lay_more : (l links : List ℕ) (i : ℕ) → suc i < length l → linked (drop i l) links ≡ linked (drop (suc i) l) (set links (get_or l i 0) (get_or l (suc i) 0))
unfolding linked
lay_more l links i h =
    let first : i < length l = omega arith in
    rw (drop-cons l i 0 first, drop-cons l (suc i) 0 h)

pub lay_end : (l links : List ℕ) (i : ℕ) → suc i ≡ length l → linked (drop i l) links ≡ set links (get_or l i 0) 0
unfolding linked
lay_end l links i e =
    let first : i < length l = omega arith in
    let none : drop (suc i) l ≡ [] = drop_of_length-le l {i = suc i} (omega arith) in
    rw (drop-cons l i 0 first, none)

-- past the end nothing is to come
pub side_end : (links : List ℕ) (k : ℕ) (marks : List ℕ) (mark : ℕ) (t : ℕ) → k ≤ t → marked marks mark (met_from links k t) ≡ []
unfolding those
side_end links k marks mark t h = ap (marked marks mark) (met_end links k t h)

pub marked_below : (links : List ℕ) (k : ℕ) → Rising links k → (head : ℕ) → head < k → (marks : List ℕ) (mark : ℕ) (t : ℕ) → In t (marked marks mark (numbers_of links k head)) → t < k
marked_below links k rising head h marks mark t i = numbers_below links k rising head t h (from_those (λ u. eqb (get_or marks u 0) mark) (numbers_of links k head) i).0

-- the first of some
pub first_of_some : (l : List ℕ) (a b : ℕ) → 0 < length l → get_or l 0 a ≡ get_or l 0 b
first_of_some [] a b h = absurd (omega arith)
first_of_some (x ∷ l) a b h = refl
