-- Tables that refuse nothing of a listing may be searched, and its list has room.
use mathlib.Core.Path.{◌≡◌}
use mathlib.Core.Bool.{not}
use mathlib.Core.Option.{none}
use mathlib.Core.List.{List, [], ◌∷◌}
use Prim.Native.Nat.{ℕ, ◌*◌, ◌≤◌}
use lib.ListN.{length}
use lib.Dec.{ltb}
use borrow.Author.Tests.{not-false, ltb-false}
use Rattle.dstree.specs.Measures.{Trace}
use Rattle.dstree.specs.KNearest.{is_k, most_nearest}
use Rattle.dstree.specs.Refusals.{◌refuses◌, first_of, short_trail, bad_k}
use Rattle.dstree.proofs.Conditions.{none_first, none_both}
use Rattle.tables.specs.Tables.{Tables}
use Rattle.tables.specs.Answers.{made_conditions}
use Rattle.calls.specs.Effects.{query_conditions_in, list_conditions_in, lists}
use Rattle.query_judging.proofs.Taken.{QueryAccepted, taken}
use Rattle.listing.proofs.Range.{k_range}

pub record MayList (t : Tables) (k : ℕ) (query : Trace) (trail list : List ℕ) : Type 0 where
  pub may_search : QueryAccepted t query trail
  pub k_low : 1 ≤ k
  pub k_high : k ≤ most_nearest
  pub list_room : 2 * k ≤ length list

pub may_list : (t : Tables) (k : ℕ) (query : Trace) (trail list : List ℕ) → first_of (lists t k query trail list).conditions ≡ none
    → MayList t k query trail list
may_list t k query trail list e =
    let parts = none_both (made_conditions t) (list_conditions_in t k query trail list) e in
    let one = none_first (not (is_k k)) bad_k _ parts.1 in
    let asked = none_both (query_conditions_in t query trail) (ltb (length list) (2 * k) refuses short_trail ∷ []) one.1 in
    let range = k_range k (not-false (is_k k) one.0) in
    record {
      may_search = taken t query trail parts.0 asked.0;
      k_low = range.0;
      k_high = range.1;
      list_room = ltb-false (length list) (2 * k) (none_first (ltb (length list) (2 * k)) short_trail [] asked.1).0;
    }
