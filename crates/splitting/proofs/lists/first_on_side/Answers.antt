-- `splitting::lists::first_on_side` meets its contract: no trace that was passed has the mark, so that the first of the side is still to
-- come.
use mathlib.Core.Path.{sym, ap, ◌∙◌}
use mathlib.Core.List.{List}
use Prim.Native.Nat.{ℕ, ◌≤◌, ◌<◌}
use native.Mathlib.Omega.{arith}
use lib.ListN.{get_or}
use borrow.Author.Tests.{eq-eqb, ne_eqb}
use Rattle.leaf_figures.specs.Sides.{marked}
use Rattle.tables.proofs.Listed.{met_from, met_start, behind_rises}
use Rattle.splitting.proofs.Walks.{side_more, side_end}
use Rattle.splitting.proofs.lists.first_on_side.Goals as goal

-- how far the walk goes on
further : (c : goal.After-behind-t) → (c.loop-t.t < c.behind-t.result) × (c.behind-t.result ≤ c.args.k)
further c =
    let h = behind_rises c.args.links.now c.args.k c.requires.3 c.loop-t.t c.loop-t-test.true in
    (omega (arith, h, c.behind-t.ensures), omega (arith, h, c.behind-t.ensures))

pub loop-t-init : goal.loop-t-init
loop-t-init c =
    (omega arith, ap (λ (l : List ℕ). get_or (marked c.args.marks.now c.args.mark l) 0 c.args.k) (met_start c.args.links.now c.args.k c.args.head c.requires.0))

pub returns-then-marks-t : goal.returns-then-marks-t
returns-then-marks-t c =
    let l = c.loop-t in
    let b = eq-eqb (get_or c.args.marks.now l.t 0) c.args.mark c.if-marks-t.true in
    let more = side_more c.args.links.now c.args.k c.requires.3 c.args.marks.now c.args.mark l.t c.loop-t-test.true in record
    { value = sym (ap (λ (m : List ℕ). get_or m 0 c.args.k) (rw b at more)) ∙ l.invariant.1; inside = omega arith }

pub loop-t-smaller : goal.loop-t-smaller
loop-t-smaller c = let h = further c in omega arith

pub loop-t-preserved : goal.loop-t-preserved
loop-t-preserved c =
    let l = c.loop-t in
    let h = further c in
    let b = ne_eqb (get_or c.args.marks.now l.t 0) c.args.mark c.if-marks-t.false in
    let more = side_more c.args.links.now c.args.k c.requires.3 c.args.marks.now c.args.mark l.t c.loop-t-test.true in (
      omega arith,
      ap (λ (u : ℕ). get_or (marked c.args.marks.now c.args.mark (met_from c.args.links.now c.args.k u)) 0 c.args.k) c.behind-t.ensures
          ∙ (sym (ap (λ (m : List ℕ). get_or m 0 c.args.k) (rw b at more)) ∙ l.invariant.1),
    )

pub returns : goal.returns
returns c =
    let l = c.loop-t in record {
      value = sym (ap (λ (m : List ℕ). get_or m 0 c.args.k) (side_end c.args.links.now c.args.k c.args.marks.now c.args.mark l.t c.loop-t-test.false)) ∙ l.invariant.1;
      inside = omega arith;
    }
