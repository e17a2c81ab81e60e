-- Of a bound or an upper figure only how many edges it has reached bears on the report. Edges rise, so that a figure has reached edge number
-- k exactly if it has reached more than k edges.
use Rattle.std.specs.Prelude.{if◌then◌else◌}
use Prim.Native.Nat.{ℕ, zero, suc, ◌+◌, ◌≤◌, ◌<◌, min, max}
use mathlib.Core.Path.{◌≡◌, refl, sym, ◌∙◌}
use mathlib.Core.Bool.{Bool, true, false, ◌&&◌}
use mathlib.Core.List.{List, [], ◌∷◌}
use native.Mathlib.Omega.{arith}
use native.Mathlib.Decide.{dec_le}
use lib.ListN.{length, get_or, drop, drop_of_length-le}
use lib.Seq.{drop-cons}
use lib.Dec.{T, leb, ltb, eqb, leb→le, le→leb, eqb→eq, leb-suc-suc, leb-suc-zero}
use mir.Facts.{and_yes, yes_and}
use borrow.Author.Tests.{ltb-true, ltb-false, lt-ltb, le-ltb, leb-true, leb-false, le-leb, lt-leb}
use Rattle.integer.specs.Words.{those}
use Rattle.integer.proofs.Tests.{is_true, test_true, same_test, eq→eqb}
use Rattle.dstree.specs.Measures.{Trace, within}
use Rattle.dstree.specs.Node.{Tree}
use Rattle.dstree.specs.Matching.{bound}
use Rattle.dstree.specs.WellFormed.{rising}
use Rattle.dstree.specs.Bands.{upper, most_edges, is_edges, is_sure, is_possible}
use Rattle.band_counts.specs.Reached.{edges_reached}
use Rattle.band_counts.specs.Counted.{band_at}

-- ---- edges reached

-- a greater figure has reached no fewer
reached_more : (edges : List ℕ) (a b : ℕ) → a ≤ b → edges_reached edges a ≤ edges_reached edges b
unfolding edges_reached those
reached_more [] a b h = omega arith
reached_more (e ∷ edges) a b h = by (leb e a) (leb e b) refl refl (reached_more edges a b h)
  where
    by : (s t : Bool) → leb e a ≡ s → leb e b ≡ t → edges_reached edges a ≤ edges_reached edges b
        → length (if s then e ∷ those (λ d. leb d a) edges else those (λ d. leb d a) edges) ≤ length
        (if t then e ∷ those (λ d. leb d b) edges else those (λ d. leb d b) edges)
    by true true p q ih = omega arith
    by false true p q ih = omega arith
    by false false p q ih = ih
    by true false p q ih = absurd (omega (arith, leb-true e a p, leb-false e b q))

pub of_greater : (edges : List ℕ) (a b : ℕ) → edges_reached edges (max a b) ≡ max (edges_reached edges a) (edges_reached edges b)
of_greater edges a b = by (dec_le a b)
  where
    by : Dec (a ≤ b) → edges_reached edges (max a b) ≡ max (edges_reached edges a) (edges_reached edges b)
    by (yes h) = let e : max a b ≡ b = omega arith in let m = reached_more edges a b h in rw e (omega (arith, m))
    by (no f) = let e : max a b ≡ a = omega arith in let m = reached_more edges b a (omega arith) in rw e (omega (arith, m))

pub of_smaller : (edges : List ℕ) (a b : ℕ) → edges_reached edges (min a b) ≡ min (edges_reached edges a) (edges_reached edges b)
of_smaller edges a b = by (dec_le a b)
  where
    by : Dec (a ≤ b) → edges_reached edges (min a b) ≡ min (edges_reached edges a) (edges_reached edges b)
    by (yes h) = let e : min a b ≡ a = omega arith in let m = reached_more edges a b h in rw e (omega (arith, m))
    by (no f) = let e : min a b ≡ b = omega arith in let m = reached_more edges b a (omega arith) in rw e (omega (arith, m))

pub at_most_all : (edges : List ℕ) (d : ℕ) → edges_reached edges d ≤ length edges
unfolding edges_reached those
at_most_all [] d = omega arith
at_most_all (e ∷ edges) d = by (leb e d) (at_most_all edges d)
  where
    by : (t : Bool) → edges_reached edges d ≤ length edges
        → length (if t then e ∷ those (λ c. leb c d) edges else those (λ c. leb c d) edges) ≤ length (e ∷ edges)
    by true ih = omega arith
    by false ih = omega arith

-- rising edges: the first two, and those behind
rising_two : (a b : ℕ) (rest : List ℕ) → rising (a ∷ (b ∷ rest)) ≡ true → (a < b) × (rising (b ∷ rest) ≡ true)
unfolding rising
rising_two a b rest e =
    let h : T (ltb a b) × T (rising (b ∷ rest)) = and_yes (ltb a b) (rising (b ∷ rest)) (is_true e) in
    (ltb-true a b (test_true (ltb a b) h.0), test_true (rising (b ∷ rest)) h.1)

-- below the first edge none is reached
none_reached : (a : ℕ) (rest : List ℕ) (d : ℕ) → rising (a ∷ rest) ≡ true → d < a → edges_reached (a ∷ rest) d ≡ 0
unfolding edges_reached those
none_reached a [] d r h = rw (lt-leb a d h)
none_reached a (b ∷ rest) d r h =
    let two = rising_two a b rest r in
    let ih = none_reached b rest d two.1 (omega (arith, two.0)) in
    rw (lt-leb a d h) ih

first_reached : (a : ℕ) (rest : List ℕ) (d : ℕ) → a ≤ d → edges_reached (a ∷ rest) d ≡ suc (edges_reached rest d)
unfolding edges_reached those
first_reached a rest d h = rw (le-leb a d h)

-- edge number k is reached exactly if more than k are
edge_reached : (edges : List ℕ) (k d : ℕ) → rising edges ≡ true → k < length edges → leb (get_or edges k 0) d ≡ ltb k (edges_reached edges d)
edge_reached [] k d r h = absurd (omega arith)
edge_reached (a ∷ rest) zero d r h = by (dec_le a d)
  where
    by : Dec (a ≤ d) → leb a d ≡ ltb 0 (edges_reached (a ∷ rest) d)
    by (yes l) = rw (le-leb a d l, first_reached a rest d l) (sym (lt-ltb 0 (suc (edges_reached rest d)) (omega arith)))
    by (no f) = rw (lt-leb a d (omega arith), none_reached a rest d r (omega arith)) (sym (le-ltb 0 0 (omega arith)))
edge_reached (a ∷ []) (suc k) d r h = absurd (omega arith)
edge_reached (a ∷ (b ∷ rest)) (suc k) d r h =
    by (dec_le a d) (edge_reached (b ∷ rest) k d (rising_two a b rest r).1 (omega arith))
  where
    two : (a < b) × (rising (b ∷ rest) ≡ true)
    two = rising_two a b rest r

    by : Dec (a ≤ d) → leb (get_or (b ∷ rest) k 0) d ≡ ltb k (edges_reached (b ∷ rest) d)
        → leb (get_or (b ∷ rest) k 0) d ≡ ltb (suc k) (edges_reached (a ∷ (b ∷ rest)) d)
    by (yes l) ih = rw (first_reached a (b ∷ rest) d l) (ih ∙ sym (leb-suc-suc (suc k) (edges_reached (b ∷ rest) d)))
    by (no f) ih =
        let z : edges_reached (b ∷ rest) d ≡ 0 = none_reached b rest d two.1 (omega (arith, two.0)) in
        rw (none_reached a (b ∷ rest) d r (omega arith)) ((rw z at ih) ∙ leb-suc-zero k ∙ sym (leb-suc-zero (suc k)))

-- d has reached a band's start, and not its end
start_reached : (edges : List ℕ) (k d : ℕ) → rising edges ≡ true → suc k < length edges
    → leb (get_or edges k 0) d ≡ leb (suc k) (edges_reached edges d)
start_reached edges k d r h = edge_reached edges k d r (omega arith)

end_not_reached : (edges : List ℕ) (k d : ℕ) → rising edges ≡ true → suc k < length edges
    → ltb d (get_or edges (suc k) 0) ≡ leb (edges_reached edges d) (suc k)
end_not_reached edges k d r h = by (dec_le (get_or edges (suc k) 0) d) (edge_reached edges (suc k) d r h)
  where
    by : Dec (get_or edges (suc k) 0 ≤ d) → leb (get_or edges (suc k) 0) d ≡ ltb (suc k) (edges_reached edges d)
        → ltb d (get_or edges (suc k) 0) ≡ leb (edges_reached edges d) (suc k)
    by (yes l) q =
        let m : suc k < edges_reached edges d = ltb-true (suc k) (edges_reached edges d) (sym q ∙ le-leb (get_or edges (suc k) 0) d l) in
        rw (le-ltb d (get_or edges (suc k) 0) l, lt-leb (edges_reached edges d) (suc k) m)
    by (no f) q =
        let l : d < get_or edges (suc k) 0 = omega arith in
        let m : edges_reached edges d ≤ suc k = ltb-false (suc k) (edges_reached edges d) (sym q ∙ lt-leb (get_or edges (suc k) 0) d l) in
        rw (lt-ltb d (get_or edges (suc k) 0) l, le-leb (edges_reached edges d) (suc k) m)

-- both tests at once
both_eqb : (n k : ℕ) → (leb k n && leb n k) ≡ eqb n k
both_eqb n k = same_test
    (λ t. let h : T (leb k n) × T (leb n k) = and_yes (leb k n) (leb n k) t in
    eq→eqb {a = n} {b = k} (omega (arith, leb→le k n h.0, leb→le n k h.1)))
    (λ t. let e : n ≡ k = eqb→eq n k t in yes_and (leb k n) (leb n k) (le→leb k n (omega arith)) (le→leb n k (omega arith)))

-- one edge more
pub reached_next : (edges : List ℕ) (i figure : ℕ) → i < length edges
    → edges_reached (drop i edges) figure ≡ (if leb (get_or edges i 0) figure then 1 else 0) + edges_reached (drop (suc i) edges) figure
unfolding edges_reached those
reached_next edges i figure h = rw (drop-cons edges i 0 h) (by (leb (get_or edges i 0) figure))
  where
    by : (t : Bool) → length (if t then get_or edges i 0 ∷ those (λ e. leb e figure) (drop (suc i) edges) else those (λ e. leb e figure) (drop (suc i) edges))
        ≡ (if t then 1 else 0) + length (those (λ e. leb e figure) (drop (suc i) edges))
    by true = omega arith
    by false = omega arith

pub reached_end : (edges : List ℕ) (i figure : ℕ) → length edges ≤ i → edges_reached (drop i edges) figure ≡ 0
unfolding edges_reached those
reached_end edges i figure h = rw (drop_of_length-le edges {i = i} h)

-- ---- edges that may be given

pub edges_are : (edges : List ℕ) → T (is_edges edges) → (2 ≤ length edges) × (length edges ≤ most_edges) × (rising edges ≡ true)
unfolding is_edges
edges_are edges t =
    let h : T (within 2 (length edges) most_edges) × T (rising edges) = and_yes (within 2 (length edges) most_edges) (rising edges) t in
    let w : T (leb 2 (length edges)) × T (leb (length edges) most_edges) = and_yes (leb 2 (length edges)) (leb (length edges) most_edges) h.0 in
    (leb→le 2 (length edges) w.0, leb→le (length edges) most_edges w.1, test_true (rising edges) h.1)

-- ---- a leaf in the band between edges number k and k + 1

module _ (edges : List ℕ) (r : rising edges ≡ true) (tree : Tree) (query : Trace) (k leaf : ℕ) (h : suc k < length edges) where
  pub sure_is : is_sure tree query (band_at edges k) leaf
      ≡ eqb (edges_reached edges (bound tree query leaf)) (suc k) && eqb (edges_reached edges (upper tree query leaf)) (suc k)
  unfolding is_sure
  sure_is =
      let b = bound tree query leaf in
      let u = upper tree query leaf in
      rw (
        start_reached edges k b r h,
        end_not_reached edges k b r h,
        start_reached edges k u r h,
        end_not_reached edges k u r h,
        both_eqb (edges_reached edges b) (suc k),
        both_eqb (edges_reached edges u) (suc k),
      )

  pub possible_is : is_possible tree query (band_at edges k) leaf
      ≡ leb (edges_reached edges (bound tree query leaf)) (suc k) && leb (suc k) (edges_reached edges (upper tree query leaf))
  unfolding is_possible
  possible_is =
      let b = bound tree query leaf in
      let u = upper tree query leaf in
      rw (end_not_reached edges k b r h, start_reached edges k u r h)
