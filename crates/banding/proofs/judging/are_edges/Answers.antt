-- `banding::judging::are_edges` meets its contract: those from the edge before on rise exactly if all do.
use mathlib.Core.Path.{◌≡◌, refl, sym, ◌∙◌}
use Prim.Native.Nat.{ℕ, ◌+◌, ◌-◌, ◌≤◌}
use native.Mathlib.Omega.{arith}
use mathlib.Core.List.{List}
use lib.ListN.{length, get_or, drop}
use borrow.Author.Tests.{lt-ltb, le-ltb}
use Rattle.dstree.specs.WellFormed.{rising}
use Rattle.dstree.specs.Bands.{is_edges}
use Rattle.banding.proofs.Rising.{too_few, too_many, by_rising, rising_next, rising_last}
use Rattle.banding.proofs.judging.are_edges.Goals as goal

pub returns-then-edges-lt2 : goal.returns-then-edges-lt2
returns-then-edges-lt2 c = sym (too_few c.args.edges.now c.if-edges-lt2.true)

pub returns-then-edges-gt16 : goal.returns-then-edges-gt16
returns-then-edges-gt16 c = sym (too_many c.args.edges.now (omega (arith, c.if-edges-lt2.false)) c.if-edges-gt16.true)

-- with 2 to 16 edges only whether they rise is left
rest : (edges : List ℕ) (i : ℕ) → 2 ≤ length edges → length edges ≤ 16 → rising edges ≡ rising (drop (i - 1) edges)
    → is_edges edges ≡ rising (drop (i - 1) edges)
rest edges i many few l = by_rising edges many few ∙ l

pub loop-i-init : goal.loop-i-init
loop-i-init c = refl

pub returns-then-edges-i : goal.returns-then-edges-i
returns-then-edges-i c =
    let edges = c.args.edges.now in
    let i = c.loop-i.i in
    let step = rising_next edges i (omega arith) (omega (arith, c.loop-i-test.true)) in
    let so_far = rest edges i (omega (arith, c.if-edges-lt2.false)) (omega (arith, c.if-edges-gt16.false)) c.loop-i.invariant in
    sym (so_far ∙ (step ∙ rw (le-ltb (get_or edges (i - 1) 0) (get_or edges i 0) c.if-edges-i.true)))

pub loop-i-preserved : goal.loop-i-preserved
loop-i-preserved c =
    let edges = c.args.edges.now in
    let i = c.loop-i.i in
    let step = rising_next edges i (omega arith) (omega (arith, c.loop-i-test.true)) in
    let above = lt-ltb (get_or edges (i - 1) 0) (get_or edges i 0) (omega (arith, c.if-edges-i.false)) in
    let on : i + 1 - 1 ≡ i = omega arith in
    rw on (c.loop-i.invariant ∙ (step ∙ rw above))

pub returns : goal.returns
returns c =
    let edges = c.args.edges.now in
    let i = c.loop-i.i in
    let all : i ≡ length edges = omega (arith, c.if-edges-lt2.false) in
    let so_far = rest edges i (omega (arith, c.if-edges-lt2.false)) (omega (arith, c.if-edges-gt16.false)) c.loop-i.invariant in
    sym (so_far ∙ rising_last edges i (omega arith) all)
