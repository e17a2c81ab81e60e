-- The bench's call of document 02, §8: on any tables it answers what lies in the trace's place, and on a memory that the check would accept
-- the book's label.
use Prim.Native.Nat.{◌<◌}
use mathlib.Core.Path.{◌≡◌, sym, ap, ◌∙◌}
use mathlib.Core.Bool.{not}
use mathlib.Core.Option.{Option, none}
use mathlib.Core.List.{List, []}
use lib.ListN.{get_or}
use lib.Dec.{ltb}
use borrow.Author.Tests.{not-false, ltb-true}
use Rattle.dstree.specs.Labels.{Label, no_label}
use Rattle.dstree.specs.Refusals.{Refusal, first_of, bad_recording}
use Rattle.dstree.specs.Book.{labelling, Call, call, beside_of, labelled, answering, Reply, reply, Book}
use Rattle.dstree.proofs.Conditions.{none_first, none_both}
use Rattle.tables.specs.Tables.{Tables, trace_count}
use Rattle.tables.specs.View.{labels_in}
use Rattle.tables.specs.Beginning.{first_places}
use Rattle.tables.specs.Answers.{made_conditions}
use Rattle.tables.proofs.Beginning.{left_same, first_begins}
use Rattle.tables.proofs.Labels.{label_at_lem}
use Rattle.calls.specs.Trusted.{Trusts}
use Rattle.calls.specs.Effects.{tells_label, effect_of}
use Rattle.calls.specs.Follows.{Typed}
use Rattle.calls.specs.Demands.{LabelsAnywhere, judge_in, LabelGives}
use Rattle.calls.proofs.Trusted.{part_trusts, fine_room}
use Rattle.calls.proofs.Steps.{reply_is}
use Rattle.calls.proofs.OneCall.{one_call}
use Rattle.calls.proofs.OffTrail.{answered}
use Rattle.calls.proofs.Queries.{Judges}

pub labels_anywhere : LabelsAnywhere
unfolding effect_of beside_of tells_label
labels_anywhere lent number memory memory' said f l answers =
    let t = first_places lent memory in
    let e = tells_label t number in
    let known = answered (first_of e.conditions) t [] e (labelled l) (sym (ap (λ (r : Reply). r.answer) (reply_is f)) ∙ answers) in
    let own = (none_both (made_conditions t) _ known.0).1 in
    let inside : number < trace_count t =
    ltb-true number (trace_count t) (not-false _ (none_first (not (ltb number (trace_count t))) bad_recording [] own).0) in
    let is : get_or (labels_in t) number no_label ≡ l = cc known.1 in (
      record { is_stored = inside; label_is = sym is ∙ label_at_lem t number inside },
      ((one_call _ memory memory' said f).works known.0).1 ∙ left_same t memory (first_begins lent memory),
    )

-- ---- any memory that the check would accept

pub label_gives : {memory : Tables} {b : Book} → Trusts memory b → (judges : Call → Option Refusal) → Judges judges memory
    → LabelGives judges b.labels memory
unfolding effect_of Typed tells_label
label_gives {memory} {b} k judges fine lent number said memory' f not_refused =
    let part = first_places lent memory in
    let begins = first_begins lent memory in
    let here : judge_in memory (call lent (labelling number)) ≡ none = fine _ f.has_places tt not_refused in
    let t = part_trusts k begins (fine_room k begins (none_both (made_conditions part) _ here).0) in
    ((one_call _ memory memory' said f).works here).0
    ∙ ap (λ (l : List Label). reply (answering (labelled (get_or l number no_label))) []) t.labels_are
