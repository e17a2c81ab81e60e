-- The match is the one nearest: what a search for one trace leaves in a list is what the match has found, with a limit on leaves or without.
use Prim.Native.Nat.{ℕ, ◌*◌}
use mathlib.Core.Path.{◌≡◌, ◌∙◌, sym, ap, ap₂, subst}
use Rattle.std.specs.Prelude.{Option as Told}
use mathlib.Core.Option.{Option, none, some}
use mathlib.Core.List.{List, [], ◌∷◌}
use native.Mathlib.Omega.{arith}
use lib.ListN.{length, get_or, take, drop}
use lib.Seq.{length-take-le}
use Rattle.dstree.specs.Measures.{Trace}
use Rattle.dstree.specs.Matching.{reading_order, Near, Search, searched}
use Rattle.dstree.specs.KNearest.{kth, Listing}
use Rattle.dstree.specs.Batch.{near_or_zero, match_seen}
use Rattle.dstree.specs.LeafLimit.{limited_search, next_bound, limited_from, limited_by_steps}
use Rattle.dstree.proofs.KSteps.{list_of, as_listing, kth_one, one_searched}
use Rattle.dstree.proofs.LimitSteps.{limited_listing}
use Rattle.tables.specs.Tables.{Tables}
use Rattle.tables.specs.View.{tree_in, traces_in}
use Rattle.reading.specs.Nearest.{near}
use Rattle.reading.specs.Listed.{record_at, nears_in}
use Rattle.reading.proofs.Records.{nears_length, nears_at}
use Rattle.search.specs.Searched.{VisitedBy, LimitSearched, ListSearched, match_by, Searched, MatchedWithin}

-- the first record of a list that was zero is the match's trace and distance; where nothing is found, it is as it was
first_is : (best : Option Near) (many : ℕ) (list : List ℕ) → nears_in many list ≡ list_of best
    → drop (2 * many) list ≡ drop (2 * many) (0 ∷ 0 ∷ []) → record_at list 0 ≡ near_or_zero best
unfolding near_or_zero
first_is none many list e rest =
    let z : many ≡ 0 = omega (arith, ap length e, nears_length many list) in
    let same : list ≡ 0 ∷ 0 ∷ [] = rw z at rest in
    ap (λ (l : List ℕ). record_at l 0) same
first_is (some b) many list e rest =
    let z : many ≡ 1 = omega (arith, ap length e, nears_length many list) in
    sym (nears_at many 0 list (omega arith)) ∙ ap (λ (r : List Near). get_or r 0 (near 0 0)) e

-- what a search for one trace has found, as a match
module _ (steps : Search) (trail trail' list' : List ℕ) (many out traces : ℕ) (size : length trail' ≡ length trail)
    (v : VisitedBy 1 (as_listing steps) trail trail' (0 ∷ 0 ∷ []) list' many out traces) where
  read : length (take out trail') ≡ out
  read = length-take-le out trail' (omega (arith, v.within, size))

  seen_as : match_by (get_or list' 0 0) (get_or list' 1 0) out traces trail' ≡ match_seen steps steps.best
  seen_as =
      let b = first_is steps.best many list' (ap (λ (l : Listing). l.list) v.found) v.list_rest in
      let n = ap (λ (l : Listing). l.traces) v.found in
      let r = ap (λ (l : Listing). l.trail) v.found in
      let d : get_or list' 0 0 ≡ (near_or_zero steps.best).trace = ap (λ (a : Near). a.trace) b in
      let e : get_or list' 1 0 ≡ (near_or_zero steps.best).distance = ap (λ (a : Near). a.distance) b in
      rw (← r, read, d, e, n)

module _ (t : Tables) (query : Trace) (work work' trail trail' list' : List ℕ) (many out traces : ℕ) (size : length trail' ≡ length trail)
  where
    -- without a limit on leaves
    pub one_found : ListSearched 1 t query work work' trail trail' (0 ∷ 0 ∷ []) list' many out traces
        → Searched t query work work' trail trail' (get_or list' 0 0) (get_or list' 1 0) out traces
    one_found s =
        let match = searched (traces_in t) (tree_in t) query in
        let v = subst (λ (l : Listing). VisitedBy 1 l trail trail' (0 ∷ 0 ∷ []) list' many out traces)
        (one_searched (traces_in t) (tree_in t) query) s.visited in
        record {
          found = seen_as match trail trail' list' many out traces size v;
          within = v.within;
          trail_rest = v.trail_rest;
          work_zero = s.work_zero;
        }

    -- with one: the bound of the leaf that would be read next tells whether it is settled
    pub one_within : (most : ℕ) (unread : Told ℕ)
        → LimitSearched 1 most t query work work' trail trail' (0 ∷ 0 ∷ []) list' many out traces unread
        → MatchedWithin most t query work work' trail trail' (get_or list' 0 0) (get_or list' 1 0) out traces unread
    unfolding limited_by_steps
    one_within most unread s =
        let best = limited_search most (traces_in t) (tree_in t) query in
        let order = reading_order (tree_in t) query in
        let v = subst (λ (l : Listing). VisitedBy 1 l trail trail' (0 ∷ 0 ∷ []) list' many out traces)
        (limited_listing (traces_in t) (tree_in t) query most) s.limit_visited.visited in
        let kept : kth 1 (nears_in many list') ≡ best.best =
        ap (kth 1) (ap (λ (l : Listing). l.list) v.found) ∙ kth_one best.best in
        let counted : out ≡ length best.trail =
        sym (read best trail trail' list' many out traces size v) ∙ ap (λ (l : Listing). length l.trail) v.found in
        record {
          found =
              ap₂ limited_from (seen_as best trail trail' list' many out traces size v)
              (s.limit_visited.next ∙ ap₂ (λ (o : Option Near) (k : ℕ). next_bound o (drop k order)) kept counted);
          within = v.within;
          trail_rest = v.trail_rest;
          work_zero = s.work_zero;
        }
