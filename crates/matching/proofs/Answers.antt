-- What a search leaves is what the definition of a match has: the answer, search work zeroed, the trail's beginning.
use Prim.Native.Nat.{ℕ}
use mathlib.Core.Path.{◌≡◌, ap, ◌∙◌}
use mathlib.Core.Option.{none}
use mathlib.Core.List.{List, [], ◌∷◌}
use native.Mathlib.Omega.{arith}
use lib.IntN.{ℤ}
use lib.ListN.{length, take}
use Rattle.dstree.specs.Measures.{Trace}
use Rattle.dstree.specs.Matching.{Match, searched}
use Rattle.dstree.specs.Refusals.{first_of}
use Rattle.dstree.specs.Book.{matching, beside_of, matched, over, match_seen}
use Rattle.tables.specs.Tables.{Tables, labelled_tables}
use Rattle.tables.specs.View.{tree_in, traces_in}
use Rattle.calls.specs.Outcome.{outcome}
use Rattle.calls.specs.Effects.{matches, effect_of, outcome_on}
use Rattle.calls.proofs.Ends.{ends_done, over_first}
use Rattle.search.specs.Searched.{without_work, match_by, Searched}
use Rattle.matching.specs.Answered.{answer_by}
use Rattle.std.specs.Prelude.{Ok}

module _ (control : List ℕ) (samples nodes : List ℤ) (links work labels : List ℕ) (query : Trace) (trail : List ℕ) where
  abbrev lent : Tables
  lent = labelled_tables control samples nodes links work labels

  module _ (work' trail' : List ℕ) (trace distance out traces : ℕ) (size : length trail' ≡ length trail)
      (s : Searched (without_work control samples nodes links) query work work' trail trail' trace distance out traces) where
    found_is : match_by trace distance out traces trail' ≡ (let f = searched (traces_in lent) (tree_in lent) query in match_seen f f.best)
    unfolding traces_in tree_in
    found_is = s.found

    trail_is : trail' ≡ over (take out trail') trail
    trail_is = over_first out trail trail' (omega (arith, s.within, size)) s.trail_rest

    pub found_answer : first_of (matches lent query trail).conditions ≡ none
        → outcome (answer_by (Ok record { trace = trace; distance = distance; leaves = out; traces = traces }) trail') (labelled_tables control samples nodes links work' labels) (trail' ∷ [])
        ≡ outcome_on (matching query trail) lent
    unfolding answer_by outcome_on effect_of beside_of
    found_answer q =
        ends_done lent (trail ∷ []) (matches lent query trail) _ _ _ q
        (ap matched found_is)
        (ap (λ (w : List ℕ). labelled_tables control samples nodes links w labels) s.work_zero)
        (ap (λ (l : List ℕ). l ∷ []) (trail_is ∙ ap (λ (m : Match). over m.trail trail) found_is))
