-- `labelling::judging::judge` meets its contract: tables are judged first, then the number.
use Prim.Native.Nat.{ℕ}
use mathlib.Core.Path.{◌≡◌, sym, ap, ◌∙◌}
use mathlib.Core.Option.{none}
use native.Mathlib.Omega.{arith}
use borrow.Author.Tests.{le-ltb, lt-ltb}
use Rattle.dstree.specs.Refusals.{first_of}
use Rattle.dstree.specs.Book.{label_conditions}
use Rattle.dstree.proofs.Conditions.{first_none}
use Rattle.tables.specs.Tables.{Tables, trace_count}
use Rattle.tables.specs.Shared.{tables_lent}
use Rattle.tables.specs.Answers.{word_of, found_by, made_conditions}
use Rattle.well_formed.proofs.Refused.{passed_first}
use Rattle.calls.specs.Effects.{tells_label}
use Rattle.labelling.proofs.judging.judge.Goals as goal

-- the tables are taken, so that the number decides, of what the code compares
only : (t : Tables) (k number : ℕ) → first_of (made_conditions t) ≡ none → k ≡ trace_count t
    → first_of (tells_label t number).conditions ≡ first_of (label_conditions k number)
unfolding tells_label
only t k number nothing k_is = first_none (made_conditions t) _ nothing ∙ ap (λ (j : ℕ). first_of (label_conditions j number)) (sym k_is)

pub returns-then-k-number : goal.returns-then-k-number
unfolding found_by word_of first_of
returns-then-k-number c =
    rw (
      only (tables_lent c.args.lent) c.wider-k.result c.args.number (sym c.in_ok-judge_tables.ensures) (c.wider-k.ensures ∙ c.field.ensures),
      le-ltb c.args.number c.wider-k.result (omega (arith, c.if-k-number.true)),
    )

pub returns-in_err-judge_tables : goal.returns-in_err-judge_tables
unfolding tells_label
returns-in_err-judge_tables c =
    passed_first (made_conditions (tables_lent c.args.lent)) _ _ _ c.from_residual.ensures.1 c.in_err-judge_tables.ensures

pub returns : goal.returns
unfolding found_by first_of
returns c =
    rw (
      only (tables_lent c.args.lent) c.wider-k.result c.args.number (sym c.in_ok-judge_tables.ensures) (c.wider-k.ensures ∙ c.field.ensures),
      lt-ltb c.args.number c.wider-k.result (omega (arith, c.if-k-number.false)),
    )
