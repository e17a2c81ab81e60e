-- `adding::putting::put_given` meets its contract: the words that are put stand for the trace.
use mathlib.Core.Path.{sym, ap, subst, ◌∙◌}
use mathlib.Core.List.{List, []}
use Prim.Native.Nat.{ℕ, ◌≤◌}
use native.Mathlib.Omega.{arith}
use lib.IntN.{ℤ}
use lib.ListN.{length}
use lib.Seq.{length-take-le}
use Rattle.segment.specs.Limits.{sample_most, SamplesWithin}
use Rattle.dstree.specs.Measures.{Trace, sample_limit, most_samples}
use Rattle.dstree.proofs.Limits.{trace_length, trace_within}
use Rattle.tables.specs.Tables.{Tables, tables, measures_of}
use Rattle.insertion_memory.specs.Memory.{added_to}
use Rattle.insertion_memory.proofs.FromTables.{range}
use Rattle.adding.specs.Putting.{Takes}
use Rattle.adding.proofs.putting.put_given.Goals as goal

module _ (control : List ℕ) (samples nodes : List ℤ) (links : List ℕ) (x : Trace) (p : Takes control samples nodes links x) where
  abbrev t : Tables
  t = tables control samples nodes links []

  few : length x ≤ most_samples
  few = omega (arith, trace_length sample_limit (measures_of t).n x p.is_trace_lem, (range t p.formed).n_high)

  within : SamplesWithin sample_most x
  unfolding sample_limit
  within = trace_within sample_limit (measures_of t).n x p.is_trace_lem

pub words_of-requires : goal.words_of-requires
words_of-requires c =
    let a = c.args in
    (few a.control.now a.samples.now a.nodes.now a.links.now a.trace.now c.requires, within a.control.now a.samples.now a.nodes.now a.links.now a.trace.now c.requires)

pub slice_bounds-words-end : goal.slice_bounds-words-end
slice_bounds-words-end c =
    let a = c.args in
    omega (arith, few a.control.now a.samples.now a.nodes.now a.links.now a.trace.now c.requires, c.words_of.ensures.long)

pub slice_bounds-put-end : goal.slice_bounds-put-end
slice_bounds-put-end c =
    let a = c.args in
    let long : length a.trace.now ≤ length c.words_of.new.words =
    omega (arith, few a.control.now a.samples.now a.nodes.now a.links.now a.trace.now c.requires, c.words_of.ensures.long) in
    sym (length-take-le (length a.trace.now) c.words_of.new.words long)

pub put-requires : goal.put-requires
put-requires c =
    let a = c.args in
    subst (λ (y : Trace). Takes a.control.now a.samples.now a.nodes.now a.links.now y) (sym c.words_of.ensures.words_after) c.requires

pub returns : goal.returns
returns c = λ work.
    let a = c.args in
    c.put.ensures work ∙ ap (added_to (tables a.control.now a.samples.now a.nodes.now a.links.now work)) c.words_of.ensures.words_after
