-- `reading::list::insert` meets its contract: `RecordsMoved` is the invariant (`Records`).
use Prim.Native.Nat.{ℕ, ◌+◌, ◌-◌}
use mathlib.Core.Path.{◌≡◌, sym, ◌∙◌, subst}
use mathlib.Core.Bool.{false}
use native.Mathlib.Numerals.{add-one}
use native.Mathlib.Omega.{arith}
use lib.ListN.{take}
use Rattle.integer.proofs.Lists.{All, all_none}
use Rattle.dstree.specs.Matching.{is_nearer}
use Rattle.reading.specs.Nearest.{near}
use Rattle.reading.specs.Listed.{nears_in}
use Rattle.reading.proofs.Records.{moved_start, moved_next, none_ahead, moved_end}
use Rattle.reading.proofs.list.insert.Goals as goal

pub loop-i-init : goal.loop-i-init
loop-i-init c =
    moved_start c.args.m (near c.args.trace c.args.distance) c.args.list.now c.requires.0

pub returns-then-not-comes_before-clause-nears : goal.returns-then-not-comes_before-clause-nears
returns-then-not-comes_before-clause-nears c =
    let a = c.args in
    let s = c.loop-i.invariant in
    let here : c.loop-i.i - 1 + 1 ≡ c.loop-i.i = omega (arith, c.loop-i-test.true) in
    let e = rw here at c.put.ensures in
    let no = sym c.comes_before.ensures ∙ c.if-not-comes_before.true in
    let ahead =
    none_ahead a.m (near a.trace a.distance) a.list.now c.requires.0 c.loop-i.list c.loop-i.i (c.loop-i.i - 1) s
    (omega (arith, c.loop-i-test.true)) c.requires.1 no in
    rw (e, add-one a.m) (moved_end a.m a.trace a.distance a.list.now c.loop-i.list c.loop-i.i c.requires.0 s ahead)

pub loop-i-preserved : goal.loop-i-preserved
loop-i-preserved c =
    let a = c.args in
    let e = c.move_on.ensures in
    let yes_it = sym c.comes_before.ensures ∙ c.if-not-comes_before.false in
    rw e
    (moved_next a.m (near a.trace a.distance) a.list.now c.requires.0 c.loop-i.list c.loop-i.i (c.loop-i.i - 1)
    c.loop-i.invariant (omega (arith, c.loop-i-test.true)) yes_it)

pub returns-clause-nears : goal.returns-clause-nears
returns-clause-nears c =
    let a = c.args in
    let s = c.loop-i.invariant in
    let z : c.loop-i.i ≡ 0 = omega (arith, c.loop-i-test.false) in
    let none =
    subst (λ (n : ℕ). All (λ b. is_nearer (near a.trace a.distance) b ≡ false) (take n (nears_in a.m a.list.now)))
    (sym z) all_none in
    let end = moved_end a.m a.trace a.distance a.list.now c.loop-i.list c.loop-i.i c.requires.0 s none in
    rw (c.put-2.ensures, add-one a.m) (rw z at end)
