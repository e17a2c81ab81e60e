-- `adding::add_labelled` meets its contract: code and serial, as a place has them, are the label.
use mathlib.Core.Path.{ap, ◌∙◌}
use Rattle.dstree.specs.Labels.{Label}
use Rattle.dstree.specs.Book.{adding}
use Rattle.tables.specs.Tables.{labelled_tables}
use Rattle.calls.specs.Effects.{outcome_on}
use Rattle.adding.proofs.add_labelled.Goals as goal

pub returns : goal.returns
returns c =
    let a = c.args in
    let t = labelled_tables a.control.now a.samples.now a.nodes.now a.links.now a.work.now a.labels.now in
    c.add_with.ensures ∙ ap (λ (l : Label). outcome_on (adding a.trace.now l) t) c.place_of-place.ensures
