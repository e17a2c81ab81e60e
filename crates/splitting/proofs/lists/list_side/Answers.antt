-- `splitting::lists::list_side` meets its contract: what is listed and the traces on the side that are still to come make the side. Each
-- trace that is met is written behind what is listed, and counts if it is on the side.
use Rattle.std.specs.Prelude.{if◌then◌else◌}
use mathlib.Core.Path.{◌≡◌, sym, ap, ap₂, ◌∙◌}
use mathlib.Core.Bool.{Bool}
use mathlib.Core.List.{List, ◌++◌, append-nil}
use Prim.Native.Nat.{ℕ, suc, ◌+◌, ◌≤◌, ◌<◌}
use native.Mathlib.Omega.{arith}
use lib.Dec.{eqb}
use lib.ListN.{get_or, set, take, length-set}
use Rattle.tables.specs.Walk.{behind_of}
use Rattle.leaf_figures.specs.Sides.{marked}
use Rattle.tables.proofs.Listed.{met_from, met_start, behind_rises}
use Rattle.candidate.proofs.Sided.{with_one, listed_more, counted_most, counted_is}
use Rattle.splitting.proofs.Walks.{side_more, side_end}
use Rattle.splitting.proofs.lists.list_side.Goals as goal

-- how far the walk goes on
further : (c : goal.After-behind-t) → (c.loop-t.t < c.behind-t.result) × (c.behind-t.result ≤ c.args.k)
further c =
    let h = behind_rises c.args.links.now c.args.k c.requires.3 c.loop-t.t c.loop-t-test.true in
    (omega (arith, h, c.behind-t.ensures), omega (arith, h, c.behind-t.ensures))

pub loop-t-init : goal.loop-t-init
loop-t-init c =
    (omega arith, omega arith, c.requires.5, ap (marked c.args.marks.now c.args.mark) (met_start c.args.links.now c.args.k c.args.head c.requires.0))

pub loop-t-smaller : goal.loop-t-smaller
loop-t-smaller c = let h = further c in omega arith

pub loop-t-preserved : goal.loop-t-preserved
loop-t-preserved c =
    let l = c.loop-t in
    let a = c.args in
    let h = further c in
    let b : Bool = eqb (get_or a.marks.now l.t 0) a.mark in
    let e : l.count + c.from-count.result ≡ (if b then suc l.count else l.count) = ap (λ (m : ℕ). l.count + m) c.from-count.ensures ∙ counted_is b l.count in
    let after = marked a.marks.now a.mark (met_from a.links.now a.k (behind_of a.links.now a.k l.t)) in
    let more : marked a.marks.now a.mark (met_from a.links.now a.k l.t) ≡ with_one b l.t after =
    side_more a.links.now a.k c.requires.3 a.marks.now a.mark l.t c.loop-t-test.true in (
      omega arith,
      omega (arith, e, counted_most b l.count),
      length-set l.order l.count l.t ∙ l.invariant.2,
      ap₂ (λ (m u : ℕ). take m (set l.order l.count l.t) ++ marked a.marks.now a.mark (met_from a.links.now a.k u)) e c.behind-t.ensures
          ∙ (listed_more l.order l.count l.t b after (omega (arith, l.invariant.2)) ∙ (ap (λ (m : List ℕ). take l.count l.order ++ m) (sym more) ∙ l.invariant.3)),
    )

pub returns : goal.returns
returns c =
    let l = c.loop-t in
    let none = side_end c.args.links.now c.args.k c.args.marks.now c.args.mark l.t c.loop-t-test.false in record
    { order_after = sym (append-nil (take l.count l.order)) ∙ (ap (λ (m : List ℕ). take l.count l.order ++ m) (sym none) ∙ l.invariant.3); few = omega arith; size = l.invariant.2 }
