-- `candidate::gains::side_spread` meets its contract: the side's traces are some of the list's, so that the table of figures serves them
-- too.
use mathlib.Core.Path.{refl, ap, subst, ◌∙◌}
use mathlib.Core.List.{List}
use Prim.Native.Nat.{ℕ}
use native.Mathlib.Omega.{arith}
use lib.IntN.{ℤ}
use lib.ListN.{take, length-take}
use mir.Syntax.{w64}
use mir.Facts.{to_z-of_z}
use Rattle.integer.proofs.Width.{read}
use Rattle.integer.proofs.Lists.{In}
use Rattle.dstree.specs.Adding.{spread}
use Rattle.leaf_figures.specs.Ends.{ends_of}
use Rattle.leaf_figures.specs.Listed.{traces_at}
use Rattle.candidate.specs.Siding.{trial_test, side_of}
use Rattle.candidate.proofs.Sided.{side_in, viewed_rows_among}
use Rattle.candidate.proofs.gains.side_spread.Goals as goal

pub invariant_of-traces : goal.invariant_of-traces
invariant_of-traces c =
    let l = c.args.rows.traces in
    let g = c.list_side-many in
    let among : (t : ℕ) → In t (take g.result g.new.side) → In t l.list.now =
    λ t i. side_in l.samples.now l.n (trial_test c.args.c (read w64 c.args.threshold)) c.args.left l.list.now (subst (In t) g.ensures.side_after i) in record {
      inside = record {
        narrow = l.inside.narrow;
        few = omega (arith, length-take g.result g.new.side, g.ensures.few);
        inside = λ t i. l.inside.inside t (among t i);
        below = λ t i. l.inside.below t (among t i);
      };
    }

pub invariant_of-some : goal.invariant_of-some
invariant_of-some c =
    let l = c.args.rows.traces in
    let g = c.list_side-many in record {
      rows = viewed_rows_among l _ c.args.rows.place.now c.args.rows.columns.now refl refl
          (λ t i. side_in l.samples.now l.n (trial_test c.args.c (read w64 c.args.threshold)) c.args.left l.list.now (subst (In t) g.ensures.side_after i)) c.args.rows.rows;
    }

pub returns : goal.returns
returns c =
    let a = c.args in
    let l = a.rows.traces in
    let g = c.spread_along.ensures in
    record {
      value = g.value ∙ (ap (λ (m : List ℕ). spread (ends_of a.child) (traces_at l.samples.now l.n m)) c.list_side-many.ensures.side_after
          ∙ ap (λ (z : ℤ). spread (ends_of a.child) (traces_at l.samples.now l.n (side_of l.samples.now l.n (trial_test a.c z) a.left l.list.now))) (to_z-of_z c.ranges.threshold));
      size = g.size;
      room = c.list_side-many.ensures.size;
    }
