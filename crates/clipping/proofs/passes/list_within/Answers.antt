-- `clipping::passes::list_within` meets its contract: what is written and those still to come are all that are within the limit
-- (`integer`, `Written`).
use mathlib.Core.Path.{refl}
use Prim.Native.Nat.{◌≤◌}
use native.Mathlib.Omega.{arith}
use lib.ListN.{length}
use Rattle.integer.specs.Words.{counting}
use Rattle.integer.proofs.Lists.{up_length, up_those, counting_up, from_those, from_counting}
use Rattle.integer.proofs.Written.{writing_start, writing_end, writing_next}
use Rattle.clipping.specs.Compared.{is_within, those_within}
use Rattle.clipping.proofs.Smallest.{trace_room}
use Rattle.clipping.proofs.passes.list_within.Goals as goal

-- no more are listed than there are traces
no_more : (s : goal.After-slice_known-in-loop-t-1)
    → let a = s.args in
    length (those_within a.samples.now a.n a.count a.lows.now a.highs.now a.limit) ≤ length a.list.now
no_more s =
    let a = s.args in
    let passes = is_within a.samples.now a.n a.lows.now a.highs.now a.limit in
    omega (
      arith,
      up_length a.count (omega arith) (up_those passes (counting_up a.count 0))
          (λ t i. omega (arith, from_counting a.count 0 (from_those passes (counting a.count 0) i).0)),
      s.requires.1,
    )

pub loop-t-init : goal.loop-t-init
loop-t-init c =
    let a = c.args in
    writing_start (is_within a.samples.now a.n a.lows.now a.highs.now a.limit) a.count a.list.now

pub note-out-requires : goal.note-out-requires
note-out-requires c =
    let L = c.loop-t in
    let p = c.requires.0 in (
      p.figures,
      trace_room _ c.args.n c.args.count L.t p.room c.loop-t-test.true,
      omega (arith, c.loop-t-test.true, p.few),
      omega (arith, L.invariant.few, L.invariant.size, c.loop-t-test.true, c.requires.1),
      omega (arith, L.invariant.few, c.loop-t-test.true, p.few),
    )

pub loop-t-preserved : goal.loop-t-preserved
loop-t-preserved c =
    let r = c.note-out in
    let L = c.loop-t in
    let a = c.args in
    let passes = is_within a.samples.now a.n a.lows.now a.highs.now a.limit in
    writing_next passes a.count a.list.now L.list L.out L.t L.invariant c.loop-t-test.true (no_more c) (passes L.t) refl
    r.result r.new.list r.ensures

pub shape_of-list : goal.shape_of-list
shape_of-list c = c.loop-t.invariant.size

pub returns : goal.returns
returns c =
    let L = c.loop-t in
    let a = c.args in let r = writing_end (is_within a.samples.now a.n a.lows.now a.highs.now a.limit) a.count a.list.now L.list L.out
    L.t L.invariant (omega arith) in record { value = r.0; list = r.1 }
