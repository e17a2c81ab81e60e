-- `examples::write_to` meets its contract: the sheet is written from the tables that hold the starred example.
use mathlib.Core.Path.{ap, ◌∙◌}
use Rattle.dstree.specs.Book.{writing}
use Rattle.tables.specs.Tables.{Tables}
use Rattle.calls.specs.Outcome.{Outcome}
use Rattle.calls.specs.Effects.{outcome_on}
use Rattle.examples.specs.Steps.{junk}
use Rattle.examples.proofs.Stays.{stays_through}
use Rattle.examples.proofs.write_to.Goals as goal

pub returns : goal.returns
unfolding junk
returns c =
    record {
      sheet = ap (λ (o : Outcome). o.beside) c.write_sheet-answer.ensures
          ∙ ap (λ (t : Tables). (outcome_on (writing c.args.sheet.now) t).beside) c.put_starred.ensures;
      failure = stays_through c.print.ensures c.print_writing.ensures;
    }
