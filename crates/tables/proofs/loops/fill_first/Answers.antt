-- `tables::loops::fill_first` meets its contract: after i turns the first i places are z.
use mathlib.Core.Path.{refl}
use native.Mathlib.Omega.{arith}
use lib.ListN.{length, take}
use Rattle.tables.proofs.Fill.{fill_turn, fill_end, fill_part}
use Rattle.tables.proofs.loops.fill_first.Goals as goal

pub loop-place-init : goal.loop-place-init
loop-place-init g c = (omega arith, refl, refl)

pub loop-place-preserved : goal.loop-place-preserved
loop-place-preserved g c =
    let l = c.loop-place in
    let part = take c.args.k c.args.table.now in
    fill_turn (length part) c.args.z part l.place-items l.place-index (omega arith) c.loop-place-test.true l.invariant

pub returns : goal.returns
returns g c =
    let l = c.loop-place in
    let part = take c.args.k c.args.table.now in
    fill_part c.args.k c.args.z c.args.table.now l.place-items c.requires
    (fill_end (length part) c.args.z part l.place-items l.place-index c.loop-place-test.false l.invariant)
