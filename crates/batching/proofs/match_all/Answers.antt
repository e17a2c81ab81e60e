-- `batching::match_all` meets its contract: what the judge found says which way it ends, and tables that refuse nothing may be searched.
use Prim.Native.Nat.{ℕ}
use mathlib.Core.Path.{◌≡◌, sym, ap, ◌∙◌}
use mathlib.Core.List.{◌++◌}
use mathlib.Core.Option.{none}
use Rattle.dstree.specs.Refusals.{first_of}
use Rattle.tables.specs.Tables.{labelled_tables}
use Rattle.tables.specs.Answers.{found_by, made_conditions}
use Rattle.calls.specs.Effects.{batch_conditions_in}
use Rattle.batching.proofs.Taken.{taken}
use Rattle.batching.proofs.Answers.{batch_refused, batch_answer}
use Rattle.batching.proofs.match_all.Goals as goal

pub search_given-found-requires : goal.search_given-found-requires
unfolding found_by
search_given-found-requires c =
    let a = c.args in
    let t = labelled_tables a.control.now a.samples.now a.nodes.now a.links.now a.work.now a.labels.now in
    let m = (taken t a.many a.places a.queries.now a.trail.now (sym c.in-Ok.ensures)).0 in
    (m.searchable, m.work_room, m.trail_room, m.inside)

pub returns-in-Err : goal.returns-in-Err
returns-in-Err c = λ list size.
    let a = c.args in
    let t = labelled_tables a.control.now a.samples.now a.nodes.now a.links.now a.work.now a.labels.now in
    batch_refused a.control.now a.samples.now a.nodes.now a.links.now a.work.now a.labels.now a.many
    a.queries.now a.trail.now list _ _
    (ap (λ (p : ℕ). first_of (made_conditions t ++ batch_conditions_in t a.many p a.queries.now a.trail.now)) size
    ∙ sym c.in-Err.ensures)

pub returns-in-Ok : goal.returns-in-Ok
unfolding found_by
returns-in-Ok c = λ list size.
    let a = c.args in
    let t = labelled_tables a.control.now a.samples.now a.nodes.now a.links.now a.work.now a.labels.now in
    let nothing : first_of (made_conditions t ++ batch_conditions_in t a.many a.places a.queries.now a.trail.now) ≡ none = sym c.in-Ok.ensures in
    let r = c.search_given-found.result in
    let left = c.search_given-found.new in
    batch_answer a.control.now a.samples.now a.nodes.now a.links.now a.work.now a.labels.now a.many
    a.queries.now a.trail.now list left.work left.trail r.bests r.leaves
    c.search_given-found.auto.trail c.search_given-found.ensures
    (ap (λ (p : ℕ). first_of (made_conditions t ++ batch_conditions_in t a.many p a.queries.now a.trail.now)) size ∙ nothing)
    (size ∙ (taken t a.many a.places a.queries.now a.trail.now nothing).1)
