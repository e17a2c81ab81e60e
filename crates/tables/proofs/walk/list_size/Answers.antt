-- `tables::walk::list_size` meets its contract: what is counted and the numbers that are still to come make the list's length. The
-- links rise.
use mathlib.Core.Path.{ap}
use Prim.Native.Nat.{ℕ, ◌≤◌, ◌<◌}
use native.Mathlib.Omega.{arith}
use lib.ListN.{length}
use Rattle.tables.proofs.Listed.{met_from, met_start, met_more, met_end, behind_rises}
use Rattle.tables.proofs.walk.list_size.Goals as goal

-- how far the walk goes on
further : (c : goal.After-behind-t)
    → (c.loop-t.t < c.behind-t.result) × (c.behind-t.result ≤ c.args.k)
further c =
    let h = behind_rises c.args.links.now c.args.k c.requires.3 c.loop-t.t c.loop-t-test.true in
    (omega (arith, h, c.behind-t.ensures), omega (arith, h, c.behind-t.ensures))

pub loop-t-init : goal.loop-t-init
loop-t-init c = (
  omega (arith, c.requires.0),
  omega arith,
  omega (
    arith,
    ap length
        (met_start c.args.links.now c.args.k c.args.head c.requires.0),
  ),
)

pub overflow_add-count : goal.overflow_add-count
overflow_add-count c = omega (arith, c.requires.1)

pub behind-t-requires : goal.behind-t-requires
behind-t-requires c = omega (arith, c.requires.2)

pub loop-t-smaller : goal.loop-t-smaller
loop-t-smaller c = let h = further c in omega (arith, h)

pub loop-t-preserved : goal.loop-t-preserved
loop-t-preserved c =
    let l = c.loop-t in
    let h = further c in
    let more = ap length (met_more c.args.links.now c.args.k c.requires.3 l.t c.loop-t-test.true) in
    let on = ap (λ (t : ℕ). length (met_from c.args.links.now c.args.k t)) c.behind-t.ensures in
    (h.1, omega (arith, h.0, l.invariant.1), omega (arith, l.invariant.2, more, on))

pub returns : goal.returns
returns c =
    let l = c.loop-t in
    let none = ap length (met_end c.args.links.now c.args.k l.t c.loop-t-test.false) in record { value = omega (arith, l.invariant.2, none); size = omega (arith, l.invariant.0, l.invariant.1) }
