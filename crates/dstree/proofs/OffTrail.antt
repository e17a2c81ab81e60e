-- Samples in leaves off the trail do not bear on a search: each step reads one leaf, which is then on the trail, and stops by what it has
-- read.
use Rattle.std.specs.Prelude.{if◌then◌else◌}
use Prim.Native.Nat.{ℕ}
use mathlib.Core.Path.{◌≡◌, refl, ap}
use mathlib.Core.Bool.{Bool, true, false}
use mathlib.Core.Option.{none}
use mathlib.Core.List.{List, [], ◌∷◌, ◌++◌}
use lib.ListN.{get_or}
use Rattle.integer.proofs.Lists.{In, first, in_append_left, in_append_right, in_flat, map_agree, agree_in}
use Rattle.segment.specs.Figures.{distance}
use Rattle.dstree.specs.Measures.{Trace}
use Rattle.dstree.specs.Node.{Tree, node_at}
use Rattle.dstree.specs.Adding.{traces_of}
use Rattle.dstree.specs.Matching.{LeafBound, numbers_in, read_on, near_at, Search, distances_in, read_leaf, is_above, searched, reading_order}
use Rattle.dstree.specs.Claims.{numbers_among, OffTrail}

-- ---- any search that goes through leaves in order, and keeps the trail of those read

module _ {S : Type 0} (stop : S → ℕ → Bool) (read other : S → ℕ → S) (trail : S → List ℕ)
    (goes : (s : S) (number : ℕ) → trail (read s number) ≡ trail s ++ (number ∷ [])) where
  -- what is on the trail stays on it
  trail_stays : (s : S) (l : List LeafBound) {k : ℕ} → In k (trail s) → In k (trail (read_on stop read s l))
  unfolding read_on
  trail_stays s [] i = i
  trail_stays s (a ∷ rest) {k} i =
      by (stop s a.bound) (trail_stays (read s a.number) rest (rw (goes s a.number) (in_append_left (a.number ∷ []) i)))
    where
      by : (b : Bool) → In k (trail (read_on stop read (read s a.number) rest))
          → In k (trail (if b then s else read_on stop read (read s a.number) rest))
      by true j = i
      by false j = j

  -- another way to read that does not differ on the trail finds the same
  pub same_reading : (s : S) (l : List LeafBound) → ((k : ℕ) → In k (trail (read_on stop read s l)) → (t : S) → other t k ≡ read t k)
      → read_on stop other s l ≡ read_on stop read s l
  unfolding read_on
  same_reading s [] h = refl
  same_reading s (a ∷ rest) h = by (stop s a.bound) h (same_reading (read s a.number) rest)
    where
      onward : S
      onward = read_on stop read (read s a.number) rest

      by : (b : Bool) → ((k : ℕ) → In k (trail (if b then s else onward)) → (t : S) → other t k ≡ read t k)
          → (((k : ℕ) → In k (trail onward) → (t : S) → other t k ≡ read t k) → read_on stop other (read s a.number) rest ≡ onward)
          → (if b then s else read_on stop other (other s a.number) rest) ≡ (if b then s else onward)
      by true h ih = refl
      by false h ih =
          rw (h a.number (trail_stays (read s a.number) rest (rw (goes s a.number) (in_append_right (trail s) first))) s) (ih h)

-- ---- the match

-- traces that agree in a leaf give it the same distances
pub alike_in : (traces other : List Trace) (tree : Tree) (query : Trace) (trail : List ℕ)
    → traces_of other (numbers_among tree trail) ≡ traces_of traces (numbers_among tree trail) → (k : ℕ) → In k trail → distances_in other tree query k ≡ distances_in traces tree query k
unfolding numbers_among distances_in
alike_in traces other tree query trail e k i =
    map_agree (near_at other query) (near_at traces query) (numbers_in (node_at tree k).kind)
    (λ t j. ap (λ (x : Trace). record { trace = t; distance = distance query x })
    (agree_in (λ (t : ℕ). get_or other t []) (λ (t : ℕ). get_or traces t []) e (in_flat (λ (number : ℕ). numbers_in (node_at tree number).kind) i j)))

-- "well-formed tables that differ only there give the same answer and the same trail"
pub off_trail : OffTrail
unfolding searched read_leaf
off_trail traces other tree query e =
    same_reading (λ (s : Search) (bound : ℕ). is_above bound s.best) (read_leaf traces tree query) (read_leaf other tree query)
    (λ (s : Search). s.trail) (λ s number. refl) (record { best = none; traces = 0; trail = [] }) (reading_order tree query)
    (λ k i s. rw (alike_in traces other tree query (searched traces tree query).trail e k i))
