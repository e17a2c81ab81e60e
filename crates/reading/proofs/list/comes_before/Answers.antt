-- `reading::list::comes_before` meets its contract: each return has the tests that the order asks, and their answers.
use Prim.Native.Nat.{◌+◌, ◌*◌}
use mathlib.Core.Path.{◌≡◌}
use native.Mathlib.Omega.{arith}
use lib.ListN.{get_or}
use borrow.Author.Tests.{lt-ltb, le-ltb, eq-eqb, ne_eqb}
use Rattle.dstree.specs.Matching.{is_nearer}
use Rattle.reading.proofs.list.comes_before.Goals as goal

pub returns-then-distance-other : goal.returns-then-distance-other
unfolding is_nearer
returns-then-distance-other c = rw (lt-ltb c.args.distance (get_or c.args.list.now (2 * c.args.i + 1) 0) c.if-distance-other.true)

pub returns-then-other-distance : goal.returns-then-other-distance
unfolding is_nearer
returns-then-other-distance c =
    let d = c.args.distance in
    let other = get_or c.args.list.now (2 * c.args.i + 1) 0 in
    rw (le-ltb d other c.if-distance-other.false, ne_eqb d other (λ e. omega (arith, c.if-other-distance.true)))

pub returns : goal.returns
unfolding is_nearer
returns c =
    let d = c.args.distance in
    let other = get_or c.args.list.now (2 * c.args.i + 1) 0 in
    let same : d ≡ other = omega (arith, c.if-distance-other.false, c.if-other-distance.false) in
    rw (le-ltb d other c.if-distance-other.false, eq-eqb d other same)
