-- What a report leaves is what its definition has: the answer, search work zeroed, the beginning of the list.
use Prim.Native.Nat.{ℕ, ◌-◌}
use mathlib.Core.Path.{◌≡◌, sym, ap, ◌∙◌}
use mathlib.Core.Option.{none}
use mathlib.Core.List.{List, [], ◌∷◌}
use lib.IntN.{ℤ}
use lib.ListN.{length, drop}
use Rattle.dstree.specs.Measures.{Trace, work_needed}
use Rattle.dstree.specs.Bands.{BandCount, band_report, report_places}
use Rattle.dstree.specs.Refusals.{first_of}
use Rattle.dstree.specs.Book as book
use Rattle.dstree.specs.Book.{beside_of, banded, over}
use Rattle.dstree.proofs.Bands.{report_anywhere}
use Rattle.tables.specs.Tables.{Tables, labelled_tables, measures_of, filled}
use Rattle.tables.specs.View.{tree_in}
use Rattle.band_counts.specs.Counted.{counts_in}
use Rattle.band_counts.specs.Reported.{records_only}
use Rattle.band_counts.proofs.Places.{counts_in_lem}
use Rattle.calls.specs.Outcome.{outcome}
use Rattle.calls.specs.Effects.{bands, effect_of, outcome_on}
use Rattle.calls.proofs.Ends.{ends_done}
use Rattle.banding.specs.Answered.{answer_by}
use Rattle.std.specs.Prelude.{Ok}

module _ (control : List ℕ) (samples nodes : List ℤ) (links work labels : List ℕ) (query : Trace) (edges list work' list' : List ℕ) where
  abbrev lent : Tables
  lent = labelled_tables control samples nodes links work labels

  abbrev report : List BandCount
  report = band_report (tree_in lent) query edges

  module _ (made : list' ≡ over (report_places (band_report (tree_in (records_only control nodes links)) query edges)) list)
      (zero : work' ≡ filled (work_needed (measures_of lent)) 0 work) where
    -- samples do not bear on the tree
    places : list' ≡ over (report_places report) list
    unfolding tree_in
    places = made

    counts : counts_in (length edges - 1) list' ≡ report
    counts =
        ap (λ (n : ℕ). counts_in n list') (sym (report_anywhere (tree_in lent) query edges).one_each)
        ∙ (ap (counts_in (length report)) places ∙ counts_in_lem report (drop (length (report_places report)) list))

    pub band_answer : first_of (bands lent query edges list).conditions ≡ none
        → outcome (answer_by (Ok tt) (length edges - 1) list') (labelled_tables control samples nodes links work' labels) (list' ∷ [])
        ≡ outcome_on (book.banding query edges list) lent
    unfolding answer_by outcome_on effect_of beside_of
    band_answer e =
        ends_done lent (list ∷ []) (bands lent query edges list) _ _ _ e (ap banded counts)
        (ap (λ (w : List ℕ). labelled_tables control samples nodes links w labels) zero) (ap (λ (l : List ℕ). l ∷ []) places)
