-- Document 02, §13: which traces could be the match. The nearest of some sweep inside the ranges is no farther from it than any other trace,
-- so its least is at most each greatest.
use Prim.Native.Nat.{ℕ, ◌≤◌, ◌<◌}
use mathlib.Core.Path.{◌≡◌, refl, sym, ◌∙◌, ap, subst}
use mathlib.Core.Bool.{true}
use mathlib.Core.List.{List, [], map}
use native.Mathlib.Omega.{arith}
use lib.ListN.{length, get_or, length-map}
use lib.Dec.{T, leb, eqb, leb→le, le→leb, eqb→eq}
use Rattle.integer.specs.Words.{least, those, counting, is_in}
use Rattle.integer.proofs.Tests.{is_true, test_true, same_test, eq→eqb}
use Rattle.integer.proofs.Lists.{In, some_in, is_in_lem, in_is, InMap, of, from_map, from_those, in_those, those_agree, in_counting}
use Rattle.integer.proofs.Lists.{from_counting, Up, up_those, up_length, counting_up, least_in, map_agree}
use Rattle.integer.proofs.Times.{PlaceOf, place_of}
use Rattle.segment.specs.Figures.{distance}
use Rattle.segment.specs.Clipped.{least_from, greatest_from, Inside, ClippedClaims}
use Rattle.segment.proofs.Clipped.{clipped, none_nearer, none_farther, point_claims}
use Rattle.dstree.specs.Measures.{Trace}
use Rattle.dstree.specs.Node.{Tree}
use Rattle.dstree.specs.Matching.{least_distance, lowest_at, match_of}
use Rattle.dstree.specs.Clipped.{smallest_greatest, is_listed, possible_matches, ListedClaims, ListedAnywhere}
use Rattle.dstree.specs.Clipped.{PossibleOfSizes}
use Rattle.dstree.proofs.Search.{LowestAt, lowest}
use Rattle.dstree.proofs.Closed.{least_at_most}

-- of ranges of one number the smallest greatest is the match's distance
smallest_is : (stored : List Trace) (query : Trace) → smallest_greatest stored query query ≡ least_distance stored query
unfolding smallest_greatest least_distance
smallest_is stored query = ap least (map_agree (greatest_from query query) (distance query) stored (λ x i. (point_claims query x).greatest_is))

-- .. and the traces at it are listed
point_range : (stored : List Trace) (query : Trace) → (possible_matches stored query query).list
    ≡ those (λ trace. eqb (distance query (get_or stored trace [])) (least_distance stored query)) (counting (length stored) 0)
unfolding possible_matches is_listed
point_range stored query =
    those_agree (is_listed stored query query) (λ trace. eqb (distance query (get_or stored trace [])) (least_distance stored query))
    (counting (length stored) 0) (λ trace i. by trace (omega (arith, from_counting (length stored) 0 i)))
  where
    by : (trace : ℕ) → trace < length stored → leb (least_from query query (get_or stored trace [])) (smallest_greatest stored query query)
        ≡ eqb (distance query (get_or stored trace [])) (least_distance stored query)
    by trace h =
        let D = distance query (get_or stored trace []) in
        let d = least_distance stored query in
        let p = (point_claims query (get_or stored trace [])).least_is in
        let q = least_at_most stored [] query trace h in
        rw (p, smallest_is stored query)
        (same_test (λ t. eq→eqb {a = D} {b = d} (omega (arith, q, leb→le D d t))) (λ t. le→leb D d (omega (arith, eqb→eq D d t))))

module _ (stored : List Trace) (lows highs : Trace) where
  abbrev listed : List ℕ
  listed = (possible_matches stored lows highs).list

  -- the smallest greatest is some stored trace's
  record Smallest : Type 0 where
    trace : ℕ
    inside : trace < length stored
    is : smallest_greatest stored lows highs ≡ greatest_from lows highs (get_or stored trace [])

  smallest : 0 < length stored → Smallest
  unfolding smallest_greatest
  smallest one = by (from_map (greatest_from lows highs) stored (least_in (map (greatest_from lows highs) stored)
      (rw (length-map stored (greatest_from lows highs)) one)))
    where
      at : (x : Trace) → smallest_greatest stored lows highs ≡ greatest_from lows highs x → PlaceOf x [] stored → Smallest
      at x e p = record { trace = p.place; inside = p.inside; is = e ∙ ap (greatest_from lows highs) (sym p.is_it) }

      by : InMap (greatest_from lows highs) (smallest_greatest stored lows highs) stored → Smallest
      by (of x i e) = at x e (place_of [] i)

  in_listed : (trace : ℕ) → trace < length stored → least_from lows highs (get_or stored trace []) ≤ smallest_greatest stored lows highs
      → In trace listed
  unfolding possible_matches is_listed
  in_listed trace h k =
      in_those (is_listed stored lows highs) (in_counting (length stored) 0 trace (omega arith) (omega arith))
      (le→leb (least_from lows highs (get_or stored trace [])) (smallest_greatest stored lows highs) k)

  from_listed : (trace : ℕ) → In trace listed
      → (trace < length stored) × (least_from lows highs (get_or stored trace []) ≤ smallest_greatest stored lows highs)
  unfolding possible_matches is_listed
  from_listed trace i =
      let h : In trace (counting (length stored) 0) × T (is_listed stored lows highs trace) =
      from_those (is_listed stored lows highs) (counting (length stored) 0) i in (
        omega (arith, from_counting (length stored) 0 h.0),
        leb→le (least_from lows highs (get_or stored trace [])) (smallest_greatest stored lows highs) h.1,
      )

  rises : Up 0 listed
  unfolding possible_matches
  rises = up_those (is_listed stored lows highs) (counting_up (length stored) 0)

  -- the nearest of some sweep is listed
  nearest_in : (sweep : Trace) → Inside lows highs sweep → (trace : ℕ) → trace < length stored
      → distance sweep (get_or stored trace []) ≡ least_distance stored sweep → In trace listed
  nearest_in sweep i trace h e =
      let s = smallest (omega (arith, h)) in
      let a = none_nearer i (get_or stored trace []) in
      let b = least_at_most stored [] sweep s.trace s.inside in
      let c = none_farther i (get_or stored s.trace []) in
      in_listed trace h (rw s.is (omega (arith, a, b, c, e)))

  match_in : (sweep : Trace) → Inside lows highs sweep → 0 < length stored → (tree : Tree) → In (match_of stored tree sweep).trace listed
  unfolding match_of least_distance
  match_in sweep i one tree =
      let d = least_distance stored sweep in
      let o : LowestAt d stored sweep 0 =
      lowest d stored sweep 0 (least_in (map (distance sweep) stored) (rw (length-map stored (distance sweep)) one)) in
      let e : lowest_at 0 d stored sweep ≡ o.place = o.is ∙ omega arith in
      rw e (nearest_in sweep i o.place o.inside o.at)

  yes_in : (trace : ℕ) → In trace listed → is_in trace listed ≡ true
  yes_in trace i = test_true (is_in trace listed) (in_is i)

  pub listed_claims : ListedClaims stored lows highs
  unfolding possible_matches
  listed_claims = record {
    listed_is = λ trace e. from_listed trace (is_in_lem trace listed (is_true e));
    is_listed_lem = λ trace h k. yes_in trace (in_listed trace h k);
    by_number = rises;
    counted = refl;
    no_more = omega (arith, up_length (length stored) (omega arith) rises (λ t i. (from_listed t i).0));
    nearest_listed = λ sweep i trace h e. yes_in trace (nearest_in sweep i trace h e);
    match_listed = λ sweep i one tree. yes_in (match_of stored tree sweep).trace (match_in sweep i one tree);
    points = λ e. subst (λ (l : Trace). (possible_matches stored lows l).list
        ≡ those (λ trace. eqb (distance lows (get_or stored trace [])) (least_distance stored lows)) (counting (length stored) 0)) e (point_range stored lows);
  }

pub listed_anywhere : ListedAnywhere
listed_anywhere stored lows highs = listed_claims stored lows highs

pub possible_of_sizes : PossibleOfSizes
unfolding possible_matches
possible_of_sizes n stored of_n lows highs ll lh e = record {
  of_each = each;
  one_listed = λ one.
      let s = smallest stored lows highs one in
      let c = each s.trace s.inside in
      let w = c.farthest in
      let a = c.none_nearer w.sweep w.is_inside in
      some_in (in_listed stored lows highs s.trace s.inside (rw s.is (omega (arith, a, w.is))));
}
  where
    each : (trace : ℕ) → trace < length stored → ClippedClaims lows highs (get_or stored trace [])
    each trace h = clipped lows highs (get_or stored trace []) (ll ∙ sym lh) (of_n trace h ∙ sym ll) e
