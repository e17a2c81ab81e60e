-- `examples::steps::put_starred` meets its contract: the adding finds the tables as the opening left them.
use mathlib.Core.Path.{◌≡◌, ap, ◌∙◌}
use Rattle.dstree.specs.Measures.{measures}
use Rattle.dstree.specs.Labels.{no_label}
use Rattle.dstree.specs.Book.{opening, adding}
use Rattle.tables.specs.Tables.{Tables}
use Rattle.calls.specs.Outcome.{Outcome}
use Rattle.calls.specs.Effects.{outcome_on}
use Rattle.examples.specs.Steps.{starred_trace, starred_in}
use Rattle.examples.proofs.steps.put_starred.Goals as goal

in_order : (t : Tables) (o p : Outcome) → o ≡ outcome_on (opening (measures 1 8 2)) t → p ≡ outcome_on (adding starred_trace no_label) o.after
    → p.after ≡ starred_in t
unfolding starred_in
in_order t o p first second =
    ap (λ (u : Outcome). u.after) second ∙ ap (λ (u : Outcome). (outcome_on (adding starred_trace no_label) u.after).after) first

pub returns : goal.returns
returns c =
    in_order _ _ _ c.«open».ensures c.add.ensures
