-- `candidate::marking::side_of` meets its contract: the mark by the test, on trace t.
use mathlib.Core.Path.{◌≡◌, sym, ap₂, ◌∙◌}
use lib.IntN.{ℤ}
use mir.Facts.{to_z-of_z}
use Rattle.dstree.specs.Measures.{Trace}
use Rattle.dstree.specs.Node.{sends_left}
use Rattle.tables.specs.View.{trace_in}
use Rattle.tables.specs.Runs.{test_by}
use Rattle.tables.proofs.Parts.{run_of_words}
use Rattle.candidate.proofs.marking.side_of.Goals as goal

pub goes_left-requires : goal.goes_left-requires
goes_left-requires c = run_of_words c.trace_at-trace.result.now c.trace_at-trace.ensures c.requires

pub returns-then-goes_left : goal.returns-then-goes_left
returns-then-goes_left c =
    let a = c.args in
    let is : c.goes_left.result ≡ sends_left (test_by a.on.first a.on.last a.by_scatter a.threshold) (trace_in a.samples.now a.n a.t) =
    c.goes_left.ensures ∙ ap₂ (λ (z : ℤ) (x : Trace). sends_left (test_by a.on.first a.on.last a.by_scatter z) x) (to_z-of_z c.ranges.threshold) c.trace_at-trace.ensures in
    rw (sym is ∙ c.if-goes_left.true)

pub returns-else-goes_left : goal.returns-else-goes_left
returns-else-goes_left c =
    let a = c.args in
    let is : c.goes_left.result ≡ sends_left (test_by a.on.first a.on.last a.by_scatter a.threshold) (trace_in a.samples.now a.n a.t) =
    c.goes_left.ensures ∙ ap₂ (λ (z : ℤ) (x : Trace). sends_left (test_by a.on.first a.on.last a.by_scatter z) x) (to_z-of_z c.ranges.threshold) c.trace_at-trace.ensures in
    rw (sym is ∙ c.if-goes_left.false)
