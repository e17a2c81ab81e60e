-- An adding on any memory: what it leaves is what document 01's steps make of what was recorded, and its label.
use Prim.Native.Nat.{ℕ, ◌+◌, ◌≤◌}
use mathlib.Core.Path.{◌≡◌, sym, ap, subst, ◌∙◌}
use mathlib.Core.Option.{none}
use mathlib.Core.List.{List, [], ◌∷◌, ◌++◌}
use native.Mathlib.Omega.{arith}
use lib.ListN.{length}
use Rattle.integer.proofs.Lists.{all_none, all_more}
use Rattle.dstree.specs.Measures.{Trace, labels_needed}
use Rattle.dstree.specs.Node.{Tree}
use Rattle.dstree.specs.Adding.{insertion}
use Rattle.dstree.specs.Refusals.{first_of}
use Rattle.dstree.specs.Book.{Lent, added, Reply, beside_of}
use Rattle.dstree.proofs.Conditions.{none_both}
use Rattle.dstree.proofs.SheetLabels.{fits_of}
use Rattle.tables.specs.Tables.{Tables, lent_of, measures_of, trace_count}
use Rattle.tables.specs.View.{tree_in, traces_in, labels_in, labels_over, next_labelled}
use Rattle.tables.specs.Beginning.{first_places, left}
use Rattle.tables.specs.Answers.{made_conditions}
use Rattle.tables.proofs.Beginning.{left_begins}
use Rattle.tables.proofs.Judged.{accepted}
use Rattle.tables.proofs.Labels.{next_lent, next_stored}
use Rattle.insertion_memory.specs.Memory.{added_with}
use Rattle.insertion_memory.proofs.Meaning.{AfterAdding}
use Rattle.insertion_memory.proofs.Labels.{labelled_traces, labelled_tree}
use Rattle.calls.specs.Effects.{adds, effect_of}
use Rattle.calls.specs.Follows.{Typed}
use Rattle.calls.specs.Demands.{AddsAnywhere}
use Rattle.calls.proofs.OffTrail.{answered}
use Rattle.calls.proofs.OneCall.{adding_means, adding_fits, one_call}
use Rattle.calls.proofs.Steps.{reply_is}

pub adds_anywhere : AddsAnywhere
unfolding effect_of beside_of adds Typed labels_needed
adds_anywhere lent x l memory memory' said f number answers = record {
  number_is = number_known;
  measures_stay = ap measures_of after_is ∙ a.measures_stay;
  traces_are = ap traces_in after_is ∙ a.traces ∙ ap (λ (s : List Trace). s ++ (x ∷ [])) (labelled_traces t places);
  labels_are = ap labels_in after_is ∙ labels_known;
  tree_is = ap tree_in after_is ∙ a.tree
      ∙ (ap (λ (s : List Trace). insertion (measures_of t) s (tree_in (next_labelled t (l ∷ []))) x) (labelled_traces t places)
      ∙ ap (λ (tree : Tree). insertion (measures_of t) (traces_in t) tree x) (labelled_tree t places));
  work_stays = ap (λ (k : Tables). k.work) after_is ∙ a.work_stays;
}
  where
    t : Tables
    t = first_places lent memory

    known : (first_of (adds t x l).conditions ≡ none) × ((adds t x l).result ≡ added number)
    known = answered (first_of (adds t x l).conditions) t [] (adds t x l) (added number)
        (sym (ap (λ (r : Reply). r.answer) (reply_is f)) ∙ answers)

    number_known : number ≡ trace_count t
    number_known = cc known.1

    places : List ℕ
    places = labels_over t.labels (trace_count t) (l ∷ [])

    a : AfterAdding (next_labelled t (l ∷ [])) x
    a = adding_means t x l known.0

    fits : trace_count t + length (l ∷ []) ≤ length t.labels
    fits = omega (arith, adding_fits t x l known.0, (accepted t (none_both (made_conditions t) _ known.0).0).room.labels_room)

    after : Tables
    after = added_with t (x ∷ []) (l ∷ [])

    after_is : first_places lent memory' ≡ after
    after_is =
        let lengths : lent_of after ≡ lent = a.lengths_stay ∙ (next_lent t (l ∷ []) fits ∙ f.has_places) in
        ap (first_places lent) ((one_call _ memory memory' said f).works known.0).1
        ∙ subst (λ (s : Lent). first_places s (left after memory) ≡ after) lengths (left_begins after memory)

    labels_known : labels_in after ≡ labels_in t ++ (l ∷ [])
    labels_known = next_stored t (l ∷ []) fits after (a.trace_count_lem ∙ omega arith) a.labels_stay
        (all_more {a = l} (fits_of l f.typed) all_none)
