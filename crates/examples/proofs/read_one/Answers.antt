-- `examples::read_one` meets its contract: the match finds the tables as the reading left them.
use mathlib.Core.Path.{ap, ◌∙◌}
use Rattle.tables.specs.Tables.{Tables}
use Rattle.calls.specs.Outcome.{Outcome}
use Rattle.examples.specs.Steps.{starred_trace, parts, matched_each}
use Rattle.examples.proofs.Stays.{stays_through}
use Rattle.examples.proofs.read_one.Goals as goal

pub returns : goal.returns
returns c =
    record {
      tables = c.match_all.ensures.tables
          ∙ ap (λ (t : Tables). matched_each t (parts 1 starred_trace)) (ap (λ (o : Outcome). o.after) c.read_sheet.ensures);
      failure = stays_through c.print_done.ensures c.match_all.ensures.failure;
    }
