-- What a clipped sweep leaves is what its definition has: the answer, search work zeroed, the beginning of the list.
use Prim.Native.Nat.{ℕ}
use mathlib.Core.Path.{◌≡◌, sym, ap, ap₂, ◌∙◌}
use mathlib.Core.Option.{none}
use mathlib.Core.List.{List, [], ◌∷◌}
use lib.IntN.{ℤ}
use lib.ListN.{length, take, drop}
use lib.Seq.{take_at}
use Rattle.dstree.specs.Measures.{Trace, work_needed}
use Rattle.dstree.specs.Clipped.{Possible, possible_matches}
use Rattle.dstree.specs.Refusals.{first_of}
use Rattle.dstree.specs.Book as book
use Rattle.dstree.specs.Book.{beside_of, possible, over}
use Rattle.dstree.proofs.Clipped.{listed_anywhere}
use Rattle.tables.specs.Tables.{Tables, labelled_tables, measures_of, filled}
use Rattle.tables.specs.View.{traces_in}
use Rattle.calls.specs.Outcome.{outcome}
use Rattle.calls.specs.Effects.{clips, effect_of, outcome_on}
use Rattle.calls.proofs.Ends.{ends_done}
use Rattle.clipping.specs.Compared.{samples_only}
use Rattle.clipping.specs.Answered.{answer_by}
use Rattle.std.specs.Prelude.{Ok}

module _ (control : List ℕ) (samples nodes : List ℤ) (links work labels : List ℕ) (lows highs : Trace) (list work' list' : List ℕ) (count : ℕ) where
  abbrev lent : Tables
  lent = labelled_tables control samples nodes links work labels

  abbrev found : Possible
  found = possible_matches (traces_in lent) lows highs

  module _ (counted : count ≡ (possible_matches (traces_in (samples_only control samples)) lows highs).count)
      (made : list' ≡ over (possible_matches (traces_in (samples_only control samples)) lows highs).list list)
      (zero : work' ≡ filled (work_needed (measures_of lent)) 0 work) where
    -- control record and samples alone bear on the traces
    count_is : count ≡ found.count
    unfolding traces_in
    count_is = counted

    places : list' ≡ over found.list list
    unfolding traces_in
    places = made

    -- the list's beginning is the list
    begins : take count list' ≡ found.list
    begins =
        ap₂ take count_is places
        ∙ take_at found.list (drop (length found.list) list) found.count (sym (listed_anywhere (traces_in lent) lows highs).counted)

    pub clipped_answer : first_of (clips lent lows highs list).conditions ≡ none
        → outcome (answer_by (Ok count) list') (labelled_tables control samples nodes links work' labels) (list' ∷ [])
        ≡ outcome_on (book.clipping lows highs list) lent
    unfolding answer_by outcome_on effect_of beside_of
    clipped_answer e =
        ends_done lent (list ∷ []) (clips lent lows highs list) _ _ _ e
        (ap₂ (λ (l : List ℕ) (k : ℕ). possible (record { list = l; count = k })) begins count_is)
        (ap (λ (w : List ℕ). labelled_tables control samples nodes links w labels) zero) (ap (λ (l : List ℕ). l ∷ []) places)
