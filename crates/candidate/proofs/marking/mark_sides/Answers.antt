-- `candidate::marking::mark_sides` meets its contract: what is marked, and what the rest of the walk marks, is what all of the walk
-- marks.
use mathlib.Core.Path.{◌≡◌, sym, ap, ap₂, subst, ◌∙◌}
use mathlib.Core.Bool.{Bool}
use mathlib.Core.List.{List, foldl}
use Prim.Native.Nat.{ℕ, ◌<◌}
use native.Mathlib.Omega.{arith}
use lib.IntN.{ℤ}
use lib.ListN.{set, length-set}
use mir.Syntax.{w64}
use mir.Facts.{to_z-of_z}
use Rattle.integer.proofs.Width.{read}
use Rattle.tables.specs.Walk.{numbers_of}
use Rattle.tables.proofs.Listed.{met_from, met_start, behind_rises, fold_more, fold_end, stored_at, run_in}
use Rattle.candidate.specs.Marking.{side_mark, marks_by}
use Rattle.candidate.proofs.marking.mark_sides.Invariants.{left}
use Rattle.candidate.proofs.marking.mark_sides.Goals as goal

abbrev step : List ℤ → ℕ → ℕ → ℕ → ℕ → Bool → ℤ → List ℕ → ℕ → List ℕ
step samples n k first last by_scatter threshold m t = set m t (side_mark (left samples n k first last by_scatter threshold t))

pub loop-t-init : goal.loop-t-init
loop-t-init c =
    let a = c.args in (
      omega (arith, c.requires.0.inside),
      ap (marks_by (left a.leaf.samples.now a.leaf.n a.leaf.k a.on.first a.on.last a.by_scatter (read w64 a.threshold)) a.marks.now)
          (met_start a.leaf.links.now a.leaf.k a.leaf.head c.requires.0.inside),
      c.requires.2,
    )

pub side_of-requires : goal.side_of-requires
side_of-requires c = run_in c.requires.0 c.requires.1 c.loop-t.t c.loop-t-test.true

pub bounds-marks-t : goal.bounds-marks-t
bounds-marks-t c = omega (arith, c.requires.0.few)

pub behind-t-requires : goal.behind-t-requires
behind-t-requires c = omega (arith, c.requires.0.links_room)

pub loop-t-smaller : goal.loop-t-smaller
loop-t-smaller c =
    omega (arith, c.behind-t.ensures, behind_rises c.args.leaf.links.now c.args.leaf.k c.requires.0.rising c.loop-t.t c.loop-t-test.true)

pub loop-t-preserved : goal.loop-t-preserved
loop-t-preserved c =
    let a = c.args in
    let l = c.loop-t in
    let h : l.t < a.leaf.k = c.loop-t-test.true in
    let put = step a.leaf.samples.now a.leaf.n a.leaf.k a.on.first a.on.last a.by_scatter (read w64 a.threshold) in
    let e : set l.marks l.t c.side_of.result ≡ put l.marks l.t =
    ap (set l.marks l.t) (rw (stored_at a.leaf.samples.now a.leaf.n a.leaf.k l.t h) c.side_of.ensures) in (
      omega (arith, c.behind-t.ensures, behind_rises a.leaf.links.now a.leaf.k c.requires.0.rising l.t h),
      ap₂ (λ (m : List ℕ) (u : ℕ). foldl put m (met_from a.leaf.links.now a.leaf.k u)) e c.behind-t.ensures
          ∙ (sym (fold_more put a.leaf.links.now a.leaf.k c.requires.0.rising l.marks l.t h) ∙ l.invariant.1),
      length-set l.marks l.t c.side_of.result ∙ l.invariant.2,
    )

pub returns : goal.returns
returns c =
    let a = c.args in
    let l = c.loop-t in
    let put = step a.leaf.samples.now a.leaf.n a.leaf.k a.on.first a.on.last a.by_scatter (read w64 a.threshold) in
    let all : l.marks ≡ marks_by (left a.leaf.samples.now a.leaf.n a.leaf.k a.on.first a.on.last a.by_scatter (read w64 a.threshold)) a.marks.now (numbers_of a.leaf.links.now a.leaf.k a.leaf.head) =
    sym (fold_end put a.leaf.links.now a.leaf.k l.marks l.t c.loop-t-test.false) ∙ l.invariant.1 in record {
      marks_after = subst (λ (z : ℤ). l.marks ≡ marks_by (left a.leaf.samples.now a.leaf.n a.leaf.k a.on.first a.on.last a.by_scatter z) a.marks.now (numbers_of a.leaf.links.now a.leaf.k a.leaf.head))
          (to_z-of_z c.ranges.threshold) all;
      size = l.invariant.2;
    }
