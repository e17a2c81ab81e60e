-- `clipping::passes::note` meets its contract: where the trace is within the limit its number is written.
use mathlib.Core.Path.{◌≡◌, refl, sym, ap, ◌∙◌}
use native.Mathlib.Omega.{arith}
use lib.Dec.{leb}
use lib.ListN.{length}
use Rattle.segment.specs.Clipped.{least_from}
use Rattle.dstree.specs.Measures.{Trace}
use Rattle.tables.proofs.Parts.{words_length}
use Rattle.clipping.specs.Compared.{is_within}
use Rattle.clipping.proofs.passes.note.Goals as goal

-- what the test said
said : (c : goal.Then-is_least_within)
    → let a = c.args in
    is_within a.samples.now a.n a.lows.now a.highs.now a.limit a.t ≡ c.is_least_within.result
said c =
    let a = c.args in
    sym (c.is_least_within.ensures
    ∙ ap (λ (x : Trace). leb (least_from a.lows.now a.highs.now x) a.limit) c.trace_at.ensures)

-- what the test said
said_2 : (c : goal.Else-is_least_within)
    → let a = c.args in
    is_within a.samples.now a.n a.lows.now a.highs.now a.limit a.t ≡ c.is_least_within.result
said_2 c =
    let a = c.args in
    sym (c.is_least_within.ensures
    ∙ ap (λ (x : Trace). leb (least_from a.lows.now a.highs.now x) a.limit) c.trace_at.ensures)

pub is_least_within-requires : goal.is_least_within-requires
is_least_within-requires c =
    let a = c.args in
    let f = c.requires.0 in
    let long : length c.trace_at.result.now ≡ a.n =
    words_length a.samples.now c.trace_at.result.now a.n a.t c.trace_at.ensures c.requires.1 in
    (f.low_size ∙ sym long, f.high_size ∙ sym long, omega (arith, long, f.narrow), f.lows_within, f.highs_within)

pub returns-then-is_least_within : goal.returns-then-is_least_within
returns-then-is_least_within c = rw (said c, c.if-is_least_within.true) (refl, refl)

pub returns : goal.returns
returns c = rw (said_2 c, c.if-is_least_within.false) (refl, refl)
