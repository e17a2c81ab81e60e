-- `insertion::lists::last_of` meets its contract: wherever the walk stands, the list from there on has the last of the whole one (`Chain`).
-- Links rise, so that what is above the place left to go falls.
use mathlib.Core.Path.{refl, sym, ap, subst, ◌∙◌}
use Prim.Native.Nat.{ℕ, ◌<◌}
use native.Mathlib.Omega.{arith}
use Rattle.integer.specs.Words.{last_of}
use Rattle.tables.proofs.Listed.{met_from, met_start, behind_rises}
use Rattle.insertion.proofs.Chain.{last_step, last_end}
use Rattle.insertion.proofs.lists.last_of.Goals as goal

pub loop-next-init : goal.loop-next-init
loop-next-init c = (c.requires.0, c.behind-next.ensures, refl)

pub loop-next-smaller : goal.loop-next-smaller
loop-next-smaller c =
    let l = c.loop-next in
    omega (arith, l.invariant.0, l.invariant.1, c.loop-next-test.true, behind_rises c.args.links.now c.args.k c.requires.2 l.t l.invariant.0)

pub loop-next-preserved : goal.loop-next-preserved
loop-next-preserved c =
    let l = c.loop-next in
    let links = c.args.links.now in
    let k = c.args.k in
    let step = last_step links k c.requires.2 l.t l.invariant.0 (subst (λ (x : ℕ). x < k) l.invariant.1 c.loop-next-test.true) in
    (c.loop-next-test.true, c.behind-next-in-loop-next.ensures, ap (λ (x : ℕ). last_of (met_from links k x)) l.invariant.1 ∙ (sym step ∙ l.invariant.2))

pub returns : goal.returns
returns c =
    let l = c.loop-next in
    let links = c.args.links.now in
    let k = c.args.k in
    sym (last_end links k c.requires.2 l.t l.invariant.0 (omega (arith, l.invariant.1, c.loop-next-test.false)))
    ∙ (l.invariant.2 ∙ ap last_of (met_start links k c.args.head c.requires.0))
