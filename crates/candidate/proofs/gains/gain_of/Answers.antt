-- `candidate::gains::gain_of` meets its contract: the two sides are the test's left and right, and each side's spread is that of a
-- child.
use mathlib.Core.Path.{◌≡◌, sym, ap, ap₂, subst, ◌∙◌}
use mathlib.Core.Bool.{Bool, true, false}
use mathlib.Core.List.{List, []}
use Prim.Native.Nat.{ℕ, ◌+◌, ◌*◌}
use native.Mathlib.Omega.{arith}
use lib.IntN.{ℤ, pos, ◌-ℤ◌}
use lib.ListN.{get_or}
use lib.Seq.{length-take-le}
use mir.Syntax.{w64}
use mir.Facts.{to_z-of_z}
use mir.Val.{SFits}
use Rattle.integer.specs.Words.{those}
use Rattle.integer.proofs.Width.{of_mag, read}
use Rattle.dstree.specs.Node.{sends_left}
use Rattle.dstree.specs.Adding.{gain, traces_of, spread}
use Rattle.dstree.specs.Formed.{Rises}
use Rattle.leaf_figures.specs.Listed.{traces_at}
use Rattle.leaf_figures.specs.Rows.{stored_of}
use Rattle.leaf_figures.specs.Ends.{ends_of}
use Rattle.leaf_figures.specs.declared.listed.Listed.{Listed}
use Rattle.candidate.specs.Siding.{trial_test, on_side, side_of}
use Rattle.candidate.specs.declared.siding.Trial.{Trial}
use Rattle.candidate.specs.Trials.{child_ends}
use Rattle.candidate.proofs.Sided.{side_traces}
use Rattle.candidate.proofs.gains.gain_of.Goals as goal

module _ (l : Listed) (c : Trial) (threshold : ℤ) (fits : SFits w64 threshold) (left : Bool) where
  -- a side's numbers by the definition
  abbrev side_by : List ℕ
  side_by = those (λ (t : ℕ). on_side left (sends_left (trial_test c threshold) (get_or (stored_of l) t []))) l.list.now

  -- a side's spread is that of a child
  child_is : (all child : List ℕ) → child ≡ all → (r : ℕ) → r ≡ spread child (traces_at l.samples.now l.n (side_of l.samples.now l.n (trial_test c (read w64 threshold)) left l.list.now))
      → r ≡ spread all (traces_of (stored_of l) side_by)
  child_is all child same r e =
      e
      ∙ (ap₂ (λ (x : List ℕ) (z : ℤ). spread x (traces_at l.samples.now l.n (side_of l.samples.now l.n (trial_test c z) left l.list.now))) same (to_z-of_z fits)
      ∙ ap (spread all) (side_traces l.samples.now l.n l.k l.list.now l.inside.below (trial_test c threshold) left))

pub child_ends-child-requires : goal.child_ends-child-requires
child_ends-child-requires c =
    let p = c.requires.0.room in
    (p, λ f. omega (arith, c.requires.1.room f, length-take-le c.args.leaf.ends.count c.args.leaf.ends.at (omega (arith, p.places, p.few))))

pub side_spread-left-requires : goal.side_spread-left-requires
side_spread-left-requires c =
    (c.requires.1.inside, c.requires.2, c.child_ends-child.ensures.room, subst (Rises c.args.leaf.rows.traces.n 1) (sym c.child_ends-child.ensures.result_value) c.requires.1.rise)

pub side_spread-right-requires : goal.side_spread-right-requires
side_spread-right-requires c = (
  c.requires.1.inside,
  c.side_spread-left.ensures.room,
  c.child_ends-child.ensures.room,
  subst (Rises c.args.leaf.rows.traces.n 1) (sym c.child_ends-child.ensures.result_value) c.requires.1.rise,
)

pub gain-requires : goal.gain-requires
gain-requires c = (c.requires.0.size, c.side_spread-left.ensures.size, c.side_spread-right.ensures.size)

pub returns : goal.returns
unfolding gain
returns c =
    let a = c.args in
    let l = a.leaf.rows.traces in
    let all = child_ends a.c.cut (ends_of a.leaf.ends) in
    let child = c.child_ends-child in
    let left = child_is l a.c a.threshold c.ranges.threshold true all (ends_of child.result) child.ensures.result_value c.side_spread-left.result c.side_spread-left.ensures.value in
    let right = child_is l a.c a.threshold c.ranges.threshold false all (ends_of child.result) child.ensures.result_value c.side_spread-right.result c.side_spread-right.ensures.value in
    record {
      value = to_z-of_z (of_mag {w = w64} c.gain.result c.gain.type_inv) ∙
          (c.gain.ensures ∙ ap₂ (λ (w t : ℕ). pos (2 * w) -ℤ pos t) c.requires.0.spread_is (ap₂ ◌+◌ left right));
      room = c.side_spread-right.ensures.room;
    }
