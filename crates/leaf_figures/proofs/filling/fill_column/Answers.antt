-- `leaf_figures::filling::fill_column` meets its contract: after p turns the first p figures of the column are right.
use Rattle.std.specs.Prelude.{Some}
use mathlib.Core.Path.{◌≡◌, sym, ap, subst, ◌∙◌}
use Prim.Native.Nat.{ℕ, ◌<◌}
use native.Mathlib.Omega.{arith}
use lib.ListN.{length, get_or, length-set}
use Rattle.integer.proofs.Lists.{In, in_get_or}
use Rattle.segment.specs.Stored.{samples_of}
use Rattle.dstree.specs.Figures.{run, sum_on, scatter_on}
use Rattle.tables.specs.Runs.{RunOfTrace, Inside}
use Rattle.tables.proofs.Parts.{run_of_words}
use Rattle.leaf_figures.specs.Rows.{FirstRows, trace_of}
use Rattle.leaf_figures.specs.declared.listed.Listed.{Listed}
use Rattle.leaf_figures.specs.declared.table.Run.{Run}
use Rattle.leaf_figures.proofs.Filled.{rows_more}
use Rattle.leaf_figures.proofs.filling.fill_column.Goals as goal

-- the trace that the loop stands at lies in the table whole
run_at : (l : Listed) (on : Run) (p : ℕ) {t : ℕ} → Inside l.n on.first on.last → p < length l.list.now → t ≡ get_or l.list.now p 0 → RunOfTrace l.samples.now l.n t on.first on.last
run_at l on p {t} inside h e = record {
  narrow = l.inside.narrow;
  room = l.inside.inside t (subst (λ (x : ℕ). In x l.list.now) (sym e) (in_get_or l.list.now p 0 h));
  inside = inside;
}

pub trace_at-trace-requires : goal.trace_at-trace-requires
trace_at-trace-requires c = (run_at c.args.traces c.args.on c.loop-p.p c.requires.0 c.loop-p-test.true c.from.ensures).room

pub figures_on-requires : goal.figures_on-requires
figures_on-requires c =
    run_of_words c.trace_at-trace.result.now c.trace_at-trace.ensures (run_at c.args.traces c.args.on c.loop-p.p c.requires.0 c.loop-p-test.true c.from.ensures)

pub loop-p-preserved : goal.loop-p-preserved
loop-p-preserved c =
    let l = c.loop-p in
    let on = run c.args.on.first c.args.on.last in
    let g = c.figures_on.ensures in
    let trace : samples_of c.trace_at-trace.result.now ≡ trace_of c.args.traces (get_or c.args.traces.list.now l.p 0) =
    c.trace_at-trace.ensures ∙ ap (trace_of c.args.traces) c.from.ensures in (
      length-set l.column.figures l.p c.figures_on.result ∙ l.invariant.0,
      rows_more c.args.traces c.args.on l.column.figures l.p c.figures_on.result (omega (arith, l.invariant.0, c.requires.1, c.loop-p-test.true)) (record {
        sum_is = g.sum.0 ∙ ap (sum_on on) trace;
        sum_small = g.sum.1;
        scatter_is = g.scatter.0 ∙ ap (scatter_on on) trace;
        scatter_small = g.scatter.1;
      }) l.invariant.1,
    )

same_some : {A : Type 0} {a b : A} → Some a ≡ Some b → a ≡ b
same_some e = cc

pub returns : goal.returns
returns c =
    let l = c.loop-p in record {
      places = l.invariant.0;
      rows = λ on some. subst (λ (r : Run). FirstRows c.args.traces r l.column.figures (length c.args.traces.list.now)) (same_some some)
          (λ p h. l.invariant.1 p (omega (arith, h, c.loop-p-test.false)));
    }
