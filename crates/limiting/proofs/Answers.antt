-- What a search with a limit leaves is what the definition of a match with a limit has: the answer, search work zeroed, the trail's
-- beginning.
use Prim.Native.Nat.{ℕ}
use mathlib.Core.Path.{◌≡◌, refl, sym, ap, ◌∙◌}
use mathlib.Core.Option.{Option, none, some}
use mathlib.Core.List.{List, [], ◌∷◌}
use native.Mathlib.Omega.{arith}
use lib.IntN.{ℤ}
use lib.ListN.{length}
use Rattle.dstree.specs.Measures.{Trace}
use Rattle.dstree.specs.Matching.{Match}
use Rattle.dstree.specs.LeafLimit.{LimitedMatch, match_so_far, limited_from, limited_by_steps}
use Rattle.dstree.specs.Refusals.{first_of}
use Rattle.dstree.specs.Book.{limiting, beside_of, limited, over}
use Rattle.tables.specs.Tables.{Tables, labelled_tables}
use Rattle.tables.specs.View.{tree_in, traces_in}
use Rattle.calls.specs.Outcome.{outcome}
use Rattle.calls.specs.Effects.{limits, effect_of, outcome_on}
use Rattle.calls.proofs.Ends.{ends_done, over_first}
use Rattle.search.specs.Searched.{without_work, next_by, match_by, MatchedWithin}
use Rattle.limiting.specs.Answered.{limited_by, answer_by}
use Rattle.std.specs.Prelude.{Option as Told, Some, None, Ok}

-- what was found does not hang on whether it is settled
so_far : (m : Match) (next : Option ℕ) → match_so_far (limited_from m next) ≡ m
unfolding limited_from
so_far m none = refl
so_far m (some bound) = refl

-- as code tells it
told_is : (m : Match) (unread : Told ℕ) → limited_by unread m ≡ limited_from m (next_by unread)
unfolding limited_by limited_from next_by
told_is m None = refl
told_is m (Some bound) = refl

module _ (control : List ℕ) (samples nodes : List ℤ) (links work labels : List ℕ) (most : ℕ) (query : Trace) (trail : List ℕ) where
  abbrev lent : Tables
  lent = labelled_tables control samples nodes links work labels

  module _ (work' trail' : List ℕ) (trace distance out traces : ℕ) (unread : Told ℕ) (size : length trail' ≡ length trail)
      (s : MatchedWithin most (without_work control samples nodes links) query work work' trail trail' trace distance out traces unread) where
    abbrev found : LimitedMatch
    found = limited_from (match_by trace distance out traces trail') (next_by unread)

    found_is : found ≡ limited_by_steps most (traces_in lent) (tree_in lent) query
    unfolding traces_in tree_in
    found_is = s.found

    trail_is : trail' ≡ over (match_so_far found).trail trail
    trail_is =
        over_first out trail trail' (omega (arith, s.within, size)) s.trail_rest
        ∙ ap (λ (m : Match). over m.trail trail) (sym (so_far (match_by trace distance out traces trail') (next_by unread)))

    pub found_answer : first_of (limits lent most query trail).conditions ≡ none
        → outcome (answer_by (Ok record { trace = trace; distance = distance; leaves = out; traces = traces; unread = unread }) trail')
        (labelled_tables control samples nodes links work' labels) (trail' ∷ []) ≡ outcome_on (limiting most query trail) lent
    unfolding outcome_on effect_of beside_of answer_by
    found_answer q =
        ends_done lent (trail ∷ []) (limits lent most query trail) _ _ _ q
        (ap limited (told_is (match_by trace distance out traces trail') unread ∙ found_is))
        (ap (λ (w : List ℕ). labelled_tables control samples nodes links w labels) s.work_zero)
        (ap (λ (l : List ℕ). l ∷ []) (trail_is ∙ ap (λ (m : LimitedMatch). over (match_so_far m).trail trail) found_is))
