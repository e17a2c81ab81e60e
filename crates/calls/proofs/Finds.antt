-- A match of well-formed tables with a trace finds one, altered tables included: there is a leaf, no leaf is empty, and the first in the
-- order of reading is read whatever its bound. What it finds is a stored trace: a leaf has no other number.
use Rattle.std.specs.Prelude.{if◌then◌else◌}
use Prim.Native.Nat.{ℕ, ◌≤◌, ◌<◌}
use mathlib.Core.Path.{◌≡◌}
use mathlib.Core.Bool.{Bool, true, false, not}
use mathlib.Core.Option.{Option, none, some}
use mathlib.Core.List.{List, [], ◌∷◌, ◌++◌, foldl}
use native.Mathlib.Omega.{arith}
use native.Mathlib.Nat.{pos_of_ne-zero}
use lib.ListN.{length, length-map}
use lib.Dec.{T, eqb, ltb}
use borrow.Author.Tests.{not-false, eqb-true, eqb-false, ltb-false}
use Rattle.integer.specs.Lists.{In, first, later}
use Rattle.integer.proofs.Tests.{is_true}
use Rattle.integer.proofs.Lists.{some_in, in_is, InMap, of, from_map}
use Rattle.dstree.specs.Measures.{Trace, are_samples}
use Rattle.dstree.specs.Node.{Tree, node_at}
use Rattle.dstree.specs.Matching.{LeafBound, numbers_in, leaves, reading_order, read_on, Near, near_at, is_nearer, nearer, best_with, Search}
use Rattle.dstree.specs.Matching.{distances_in, read_leaf, is_above, search_on, searched}
use Rattle.dstree.specs.Batch.{near_or_zero}
use Rattle.dstree.specs.Refusals.{first_of, wrong_trace, sample_range, empty, short_trail}
use Rattle.dstree.proofs.Conditions.{none_first, none_both}
use Rattle.dstree.proofs.Reading.{kept_leaf, leaf_full, reading_of, in_reading}
use Rattle.tables.specs.Tables.{Tables, measures_of, trace_count}
use Rattle.tables.specs.View.{tree_in, traces_in, well_formed}
use Rattle.tables.proofs.Judged.{accepted}
use Rattle.tables.specs.Answers.{made_conditions}
use Rattle.tables.proofs.Views.{tree_formed}
use Rattle.calls.specs.Effects.{run_conditions_in, query_conditions_in}

-- something is there
abbrev pub Some : {A : Type 0} → Option A → Type 0
Some none = ⊥
Some (some a) = Unit

with_more : (l : List Near) (b : Near) → Some (foldl best_with (some b) l)
unfolding best_with
with_more [] b = tt
with_more (a ∷ l) b = with_more l (nearer b a)

with_others : (l : List Near) (o : Option Near) → Some o → Some (foldl best_with o l)
with_others l (some b) s = with_more l b
with_others l none s = absurd s

with_one : (l : List Near) → 0 < length l → Some (foldl best_with none l)
unfolding best_with
with_one [] h = absurd (omega arith)
with_one (a ∷ l) h = with_more l a

-- a best that is one of so many traces, if there is one
abbrev Inside : ℕ → Option Near → Type 0
Inside count none = Unit
Inside count (some a) = a.trace < count

one_inside : (count : ℕ) (o : Option Near) (a : Near) → Inside count o → a.trace < count → Inside count (best_with o a)
unfolding best_with nearer
one_inside count none a h k = k
one_inside count (some b) a h k = by (is_nearer a b)
  where
    by : (c : Bool) → (if c then a else b).trace < count
    by true = k
    by false = h

all_inside : (count : ℕ) (l : List Near) (o : Option Near) → Inside count o → ((a : Near) → In a l → a.trace < count)
    → Inside count (foldl best_with o l)
all_inside count [] o h each = h
all_inside count (a ∷ l) o h each = all_inside count l (best_with o a) (one_inside count o a h (each a first)) (λ b i. each b (later i))

-- before the first leaf
abbrev nothing_yet : Search
nothing_yet = record { best = none; traces = 0; trail = [] }

module _ (stored : List Trace) (tree : Tree) (query : Trace) where
  -- what is found stays found
  found_stays : (l : List LeafBound) (s : Search) → Some s.best → Some (search_on stored tree query s l).best
  unfolding read_on read_leaf
  found_stays [] s h = h
  found_stays (a ∷ rest) s h =
      let more = with_others (distances_in stored tree query a.number) s.best h in
      by (is_above a.bound s.best) (found_stays rest (read_leaf stored tree query s a.number) more)
    where
      onward : Search
      onward = search_on stored tree query (read_leaf stored tree query s a.number) rest

      by : (b : Bool) → Some onward.best → Some (if b then s else onward).best
      by true k = h
      by false k = k

  -- where leaves have stored traces alone, one of these is found
  inside_stays : (count : ℕ) → ((number : ℕ) (a : Near) → In a (distances_in stored tree query number) → a.trace < count)
      → (l : List LeafBound) (s : Search) → Inside count s.best → Inside count (search_on stored tree query s l).best
  unfolding read_on read_leaf
  inside_stays count each [] s h = h
  inside_stays count each (a ∷ rest) s h =
      by (is_above a.bound s.best)
      (inside_stays count each rest (read_leaf stored tree query s a.number)
      (all_inside count (distances_in stored tree query a.number) s.best h (each a.number)))
    where
      onward : Search
      onward = search_on stored tree query (read_leaf stored tree query s a.number) rest

      by : (b : Bool) → Inside count onward.best → Inside count (if b then s else onward).best
      by true k = h
      by false k = k

  -- the first leaf is read, and has a trace
  first_read : (l : List LeafBound) → ((a : LeafBound) → In a l → 0 < length (numbers_in (node_at tree a.number).kind)) → 0 < length l
      → Some (search_on stored tree query nothing_yet l).best
  unfolding read_on read_leaf is_above distances_in
  first_read [] full h = absurd (omega arith)
  first_read (a ∷ rest) full h =
      let some_distance : 0 < length (distances_in stored tree query a.number) =
      rw (length-map (numbers_in (node_at tree a.number).kind) (near_at stored query)) (full a first) in
      found_stays rest (read_leaf stored tree query nothing_yet a.number)
      (with_one (distances_in stored tree query a.number) some_distance)

module _ (t : Tables) (w : T (well_formed t)) (some_trace : 0 < trace_count t) (query : Trace) where
  all_full : (a : LeafBound) → In a (reading_order (tree_in t) query) → 0 < length (numbers_in (node_at (tree_in t) a.number).kind)
  all_full a i = leaf_full (tree_formed t w).shape (reading_of (tree_in t) query i).0

  -- trace 0 is in a leaf
  a_leaf : 0 < length (reading_order (tree_in t) query)
  a_leaf = some_in (in_reading (tree_in t) query (kept_leaf ((tree_formed t w).shape.kept 0 some_trace)))

  pub finds : Some (searched (traces_in t) (tree_in t) query).best
  unfolding searched
  finds = first_read (traces_in t) (tree_in t) query (reading_order (tree_in t) query) all_full a_leaf

  -- "every trace number in one leaf", and no other number
  numbered : (number : ℕ) (a : Near) → In a (distances_in (traces_in t) (tree_in t) query number) → a.trace < trace_count t
  unfolding distances_in
  numbered number a i = by (from_map (near_at (traces_in t) query) (numbers_in (node_at (tree_in t) number).kind) i)
    where
      by : InMap (near_at (traces_in t) query) a (numbers_in (node_at (tree_in t) number).kind) → a.trace < trace_count t
      by (of k j e) = rw e ((tree_formed t w).shape.numbers k number (in_is j))

  stored_trace : (near_or_zero (searched (traces_in t) (tree_in t) query).best).trace < trace_count t
  unfolding searched near_or_zero
  stored_trace = by (searched (traces_in t) (tree_in t) query).best
      (inside_stays (traces_in t) (tree_in t) query (trace_count t) numbered (reading_order (tree_in t) query) nothing_yet tt)
    where
      by : (best : Option Near) → Inside (trace_count t) best → (near_or_zero best).trace < trace_count t
      by none h = some_trace
      by (some a) h = h

-- ---- the conditions of a search

-- a run, tables and a trail of which nothing is refused
pub record RunFits (t : Tables) (size : ℕ) (run : Trace) (trail : List ℕ) : Type 0 where
  pub as_long : length run ≡ size
  -- 15 has tested them
  pub samples : T (are_samples run)
  pub some_trace : 0 < trace_count t
  pub trail_long : length (leaves (tree_in t)) ≤ length trail

pub run_fits : (t : Tables) (size : ℕ) (run : Trace) (trail : List ℕ) → first_of (run_conditions_in t size run trail) ≡ none
    → RunFits t size run trail
run_fits t size run trail e =
    let one = none_first (not (eqb (length run) size)) wrong_trace _ e in
    let two = none_first (not (are_samples run)) sample_range _ one.1 in
    let three = none_first (eqb (trace_count t) 0) empty _ two.1 in
    let four = none_first (ltb (length trail) (length (leaves (tree_in t)))) short_trail _ three.1 in
    record {
      as_long = eqb-true (length run) size (not-false _ one.0);
      samples = is_true {b = are_samples run} (not-false _ two.0);
      some_trace = pos_of_ne-zero (eqb-false (trace_count t) 0 three.0);
      trail_long = ltb-false (length trail) (length (leaves (tree_in t))) four.0;
    }

-- where a match refuses nothing, it finds a trace
pub found : (t : Tables) (query : Trace) (trail : List ℕ) → first_of (made_conditions t ++ query_conditions_in t query trail) ≡ none
    → Some (searched (traces_in t) (tree_in t) query).best
found t query trail e =
    let parts = none_both (made_conditions t) (query_conditions_in t query trail) e in
    finds t (accepted t parts.0).formed (run_fits t (measures_of t).n query trail parts.1).some_trace query

-- .. and it is a stored one
pub found_stored : (t : Tables) (query : Trace) (trail : List ℕ) → first_of (made_conditions t ++ query_conditions_in t query trail) ≡ none
    → (near_or_zero (searched (traces_in t) (tree_in t) query).best).trace < trace_count t
found_stored t query trail e =
    let parts = none_both (made_conditions t) (query_conditions_in t query trail) e in
    stored_trace t (accepted t parts.0).formed (run_fits t (measures_of t).n query trail parts.1).some_trace query
