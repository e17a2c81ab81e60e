-- `checking::order::put_list` meets its contract: the first numbers stand in their places, the rest of the list is still to come, and
-- every other place is as it was.
use mathlib.Core.Path.{◌≡◌, sym, subst, ◌∙◌}
use mathlib.Core.List.{List, ◌∷◌}
use Prim.Native.Nat.{ℕ, ◌+◌, ◌<◌}
use native.Mathlib.Omega.{arith}
use lib.ListN.{set, length-set}
use Rattle.tables.specs.Walk.{Rising, numbers_of, behind_of}
use Rattle.tables.proofs.Listed.{met_from, met_start, met_more, met_end, behind_rises}
use Rattle.checking.proofs.Put.{Putting, put_none, put_more, put_all}
use Rattle.checking.proofs.order.put_list.Goals as goal

-- what a turn of the loop knows
putting : (before now : List ℕ) (at : ℕ) (links : List ℕ) (k head place t : ℕ) → Rising links k → t < k → Putting before now at (numbers_of links k head) place (met_from links k t)
    → Putting before now at (numbers_of links k head) place (t ∷ met_from links k (behind_of links k t))
putting before now at links k head place t rising h p = subst (λ (l : List ℕ). Putting before now at (numbers_of links k head) place l) (met_more links k rising t h) p

pub loop-t-init : goal.loop-t-init
loop-t-init c =
    let a = c.args in
    let met : met_from a.links.now a.k a.head ≡ numbers_of a.links.now a.k a.head =
    met_start a.links.now a.k a.head c.requires.0 in
    (omega (arith, c.requires.0), omega arith, rw met (put_none a.order.now a.at (numbers_of a.links.now a.k a.head)))

pub overflow_cast-order : goal.overflow_cast-order
overflow_cast-order c = omega (arith, c.requires.1)

pub offset_bounds-order-place : goal.offset_bounds-order-place
offset_bounds-order-place c = omega (
  arith,
  (putting c.args.order.now c.loop-t.order c.args.at c.args.links.now c.args.k c.args.head c.loop-t.place c.loop-t.t c.requires.3 c.loop-t-test.true
      c.loop-t.invariant.2).to,
  c.requires.4,
)

pub bounds-order-place : goal.bounds-order-place
bounds-order-place c = omega (
  arith,
  (putting c.args.order.now c.loop-t.order c.args.at c.args.links.now c.args.k c.args.head c.loop-t.place c.loop-t.t c.requires.3 c.loop-t-test.true
      c.loop-t.invariant.2).to,
  c.requires.4,
)

pub overflow_add-place : goal.overflow_add-place
overflow_add-place c = omega (
  arith,
  (putting c.args.order.now c.loop-t.order c.args.at c.args.links.now c.args.k c.args.head c.loop-t.place c.loop-t.t c.requires.3 c.loop-t-test.true
      c.loop-t.invariant.2).to,
  c.requires.4,
)

pub behind-t-requires : goal.behind-t-requires
behind-t-requires c = omega (arith, c.requires.2)

pub loop-t-smaller : goal.loop-t-smaller
loop-t-smaller c = omega (arith, c.behind-t.ensures, behind_rises c.args.links.now c.args.k c.requires.3 c.loop-t.t c.loop-t-test.true)

pub loop-t-preserved : goal.loop-t-preserved
loop-t-preserved c =
    let a = c.args in
    let l = c.loop-t in
    let p = putting c.args.order.now c.loop-t.order c.args.at c.args.links.now c.args.k c.args.head c.loop-t.place c.loop-t.t c.requires.3 c.loop-t-test.true c.loop-t.invariant.2 in (
      omega (arith, c.behind-t.ensures, behind_rises c.args.links.now c.args.k c.requires.3 c.loop-t.t c.loop-t-test.true),
      length-set l.order l.place l.t ∙ l.invariant.1,
      subst (λ (t : ℕ). Putting a.order.now (set l.order l.place l.t) a.at (numbers_of a.links.now a.k a.head)
          (l.place + 1) (met_from a.links.now a.k t))
          (sym c.behind-t.ensures) (put_more p (omega (arith, p.to, c.requires.4, l.invariant.1))),
    )

pub returns : goal.returns
returns c =
    let a = c.args in
    let l = c.loop-t in
    put_all (subst (λ (m : List ℕ). Putting a.order.now l.order a.at (numbers_of a.links.now a.k a.head) l.place m)
    (met_end a.links.now a.k l.t c.loop-t-test.false) l.invariant.2)
