-- `figures_below::figures::listed_figures` meets its contract: what is taken, and what the rest of the list takes, is what all of it takes.
use Rattle.std.specs.Prelude.{Option, Some, None}
use mathlib.Core.Path.{◌≡◌, refl, sym, ap, ap₂, ◌∙◌}
use mathlib.Core.List.{◌∷◌, foldl}
use Prim.Native.Nat.{◌+◌}
use native.Mathlib.Omega.{arith}
use native.Mathlib.Numerals.{add-one}
use lib.IntN.{ℤ}
use Prim.Native.Nat.{ℕ}
use lib.ListN.{get_or, drop, drop_of_length-le}
use lib.Seq.{drop-cons}
use mir.Syntax.{w64}
use mir.Facts.{to_z-of_z}
use Rattle.integer.proofs.Width.{small}
use Rattle.integer.proofs.Lists.{in_get_or}
use Rattle.dstree.specs.Figures.{run, sum_on, scatter_on}
use Rattle.tables.specs.View.{trace_in}
use Rattle.tables.proofs.Parts.{run_of_words}
use Rattle.leaf_figures.specs.Sides.{or_none, with_figures, segment_by}
use Rattle.leaf_figures.specs.declared.sides.SideRange.{SideRange}
use Rattle.leaf_figures.proofs.Taken.{taking_at, along_taken}
use Rattle.figures_below.proofs.figures.listed_figures.Goals as goal

pub loop-t-init : goal.loop-t-init
loop-t-init c = refl

pub trace_at-requires : goal.trace_at-requires
trace_at-requires c = rw c.from.ensures (c.requires.3 (get_or c.args.list.now c.loop-t.t-index 0) (in_get_or c.args.list.now c.loop-t.t-index 0 c.loop-t-test.true))

pub figures_on-own-requires : goal.figures_on-own-requires
figures_on-own-requires c =
    run_of_words c.trace_at.result.now c.trace_at.ensures (record {
      narrow = c.requires.0;
      room = rw c.from.ensures
          (c.requires.3 (get_or c.args.list.now c.loop-t.t-index 0) (in_get_or c.args.list.now c.loop-t.t-index 0 c.loop-t-test.true));
      inside = c.requires.1;
    })

pub loop-t-preserved : goal.loop-t-preserved
loop-t-preserved c =
    let a = c.args in
    let l = c.loop-t in
    let list = a.list.now in
    let own = c.figures_on-own in
    let r = own.result in
    let on = run a.first a.last in
    let step = taking_at a.samples.now a.n on in
    let back = to_z-of_z (small {w = w64} {z = r.sum} (omega (arith, own.ensures.sum.1))) in
    let traced = c.trace_at.ensures ∙ ap (trace_in a.samples.now a.n) c.from.ensures in
    let e : c.widened.result ≡ with_figures l.f r.sum r.scatter = c.widened.ensures ∙ ap₂ (with_figures l.f) back refl in
    let taken : Some c.widened.result ≡ step l.f (get_or list l.t-index 0) =
    ap Some e ∙ ap₂ (λ (s : ℤ) (v : ℕ). Some (with_figures l.f s v)) (own.ensures.sum.0 ∙ ap (sum_on on) traced) (own.ensures.scatter.0 ∙ ap (scatter_on on) traced) in
    let rest : drop l.t-index list ≡ (get_or list l.t-index 0) ∷ drop (l.t-index + 1) list =
    rw (add-one l.t-index) (drop-cons list l.t-index 0 c.loop-t-test.true) in
    ap (λ (f : Option SideRange). foldl step f (drop (l.t-index + 1) list)) taken ∙ (sym (ap (foldl step l.f) rest) ∙ l.invariant)

pub returns : goal.returns
returns c =
    let a = c.args in
    let l = c.loop-t in
    let on = run a.first a.last in
    let step = taking_at a.samples.now a.n on in
    let none = drop_of_length-le a.list.now {i = l.t-index} (omega arith) in
    let e : l.f ≡ foldl step None a.list.now = sym (ap (foldl step l.f) none) ∙ l.invariant in
    ap (segment_by a.last) (c.unwrap_or.ensures ∙ ap or_none e) ∙ along_taken a.samples.now a.n on a.list.now
