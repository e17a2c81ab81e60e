-- What a search for the k nearest leaves is what the definition of a listing has: the answer, search work zeroed, the beginnings of trail
-- and list.
use Prim.Native.Nat.{ℕ, ◌*◌, ◌≤◌}
use mathlib.Core.Path.{◌≡◌, sym, ap, ap₂, ◌∙◌}
use mathlib.Core.Option.{none}
use mathlib.Core.List.{List, [], ◌∷◌}
use native.Mathlib.Omega.{arith}
use lib.IntN.{ℤ}
use lib.ListN.{length, take}
use lib.Seq.{length-take-le}
use Rattle.dstree.specs.Measures.{Trace}
use Rattle.dstree.specs.KNearest.{Listing, KNearest, listed, list_places, k_nearest_by_steps}
use Rattle.dstree.specs.Refusals.{first_of}
use Rattle.dstree.specs.Book as book
use Rattle.dstree.specs.Book.{beside_of, neighbours, over}
use Rattle.tables.specs.Tables.{Tables, labelled_tables}
use Rattle.tables.specs.View.{tree_in, traces_in}
use Rattle.reading.specs.Listed.{nears_in}
use Rattle.reading.proofs.Places.{list_over}
use Rattle.search.specs.Searched.{without_work, listing_by, ListSearched}
use Rattle.calls.specs.Outcome.{outcome}
use Rattle.calls.specs.Effects.{lists, effect_of, outcome_on}
use Rattle.calls.proofs.Ends.{ends_done, over_first}
use Rattle.listing.specs.Answered.{answer_by}
use Rattle.std.specs.Prelude.{Ok}

module _ (control : List ℕ) (samples nodes : List ℤ) (links work labels : List ℕ) (k : ℕ) (query : Trace) (trail list : List ℕ) where
  abbrev lent : Tables
  lent = labelled_tables control samples nodes links work labels

  module _ (work' trail' list' : List ℕ) (many out traces : ℕ) (trail_size : length trail' ≡ length trail)
      (list_size : length list' ≡ length list) (room : 2 * k ≤ length list)
      (s : ListSearched k (without_work control samples nodes links) query work work' trail trail' list list' many out traces) where
    same : listed k (traces_in lent) (tree_in lent) query ≡ listing_by (nears_in many list') traces (take out trail')
    unfolding traces_in tree_in
    same = sym s.visited.found

    in_trail : out ≤ length trail'
    in_trail = omega (arith, s.visited.within, trail_size)

    in_list : 2 * many ≤ length list'
    in_list = omega (arith, s.visited.few, room, list_size)

    abbrev found : KNearest
    found = record { list = nears_in many list'; leaves = out; traces = traces; trail = take out trail' }

    by_steps : found ≡ k_nearest_by_steps k (traces_in lent) (tree_in lent) query
    unfolding k_nearest_by_steps
    by_steps = sym
        (ap (λ (q : Listing). record { list = q.list; leaves = length q.trail; traces = q.traces; trail = q.trail }) same
        ∙ ap (λ (n : ℕ). record { list = nears_in many list'; leaves = n; traces = traces; trail = take out trail' })
        (length-take-le out trail' in_trail))

    trail_is : trail' ≡ over found.trail trail
    trail_is = over_first out trail trail' in_trail s.visited.trail_rest

    list_is : list' ≡ over (list_places found.list) list
    list_is = list_over many list list' in_list s.visited.list_rest

    pub list_answer : first_of (lists lent k query trail list).conditions ≡ none
        → outcome (answer_by (Ok record { leaves = out; traces = traces; many = many }) trail' list') (labelled_tables control samples nodes links work' labels) (trail' ∷ list' ∷ [])
        ≡ outcome_on (book.listing k query trail list) lent
    unfolding answer_by outcome_on effect_of beside_of
    list_answer e =
        ends_done lent (trail ∷ list ∷ []) (lists lent k query trail list) _ _ _ e
        (ap neighbours by_steps)
        (ap (λ (w : List ℕ). labelled_tables control samples nodes links w labels) s.work_zero)
        (ap₂ (λ (t l : List ℕ). t ∷ l ∷ []) trail_is list_is
        ∙ ap (λ (m : KNearest). over m.trail trail ∷ over (list_places m.list) list ∷ []) by_steps)
