-- `split_choice::choice::try_both` meets its contract: the least and greatest figures are those of the leaf, and the two candidates of the
-- run are tried in their order.
use Rattle.std.specs.Prelude.{Option as OptionOf, Some}
use mathlib.Core.Path.{◌≡◌, ap, ◌∙◌}
use mathlib.Core.Bool.{true, false}
use mathlib.Core.Option.{Option}
use mathlib.Core.List.{List, [], ◌∷◌}
use Prim.Native.Nat.{ℕ, ◌≤◌}
use native.Mathlib.Omega.{arith}
use lib.IntN.{ℤ, pos, nat_abs}
use mir.Syntax.{w64}
use mir.Facts.{to_z-of_z}
use Rattle.integer.proofs.Width.{of_mag, small, read}
use Rattle.segment.specs.Limits.{scatter_most}
use Rattle.segment.specs.Roots.{floor_root}
use Rattle.dstree.specs.Measures.{Trace, most_samples}
use Rattle.dstree.specs.Figures.{run}
use Rattle.dstree.specs.Adding.{segment_of, Split, by_either}
use Rattle.leaf_figures.specs.Sides.{segment_by, SmallFigures}
use Rattle.leaf_figures.specs.Ends.{ends_of}
use Rattle.leaf_figures.specs.Rows.{all_traces, stored_of}
use Rattle.leaf_figures.specs.declared.sides.SideRange.{SideRange}
use Rattle.leaf_figures.specs.declared.table.Run.{Run}
use Rattle.leaf_figures.proofs.Ranged.{least_sum_is, greatest_sum_is, least_root_is, greatest_root_is}
use Rattle.candidate.specs.Trials.{trial_by, candidate_by, TrialExtremes}
use Rattle.candidate.specs.declared.leaf.Leaf.{Leaf}
use Rattle.candidate.proofs.Sided.{list_traces}
use Rattle.split_choice.specs.Choosing.{leaf_traces, tried}
use Rattle.split_choice.proofs.choice.try_both.Goals as goal

-- what is known once the figures are taken
module _ (x : Leaf) (on : Run) (cut column : OptionOf ℕ) (f : SideRange) (taken : segment_by on.last f ≡ segment_of (all_traces x.rows.traces) (run on.first on.last)) where
  whole : segment_by on.last f ≡ segment_of (leaf_traces x) (run on.first on.last)
  whole = taken ∙ ap (λ (l : List Trace). segment_of l (run on.first on.last)) (let r = x.rows.traces in list_traces r.samples.now r.n r.k r.list.now r.inside.below)

  by_sum : SmallFigures f → TrialExtremes (leaf_traces x) (trial_by on cut column false) (read w64 f.least_sum) (read w64 f.greatest_sum)
  by_sum m =
      let low : read w64 f.least_sum ≡ f.least_sum = to_z-of_z (small {w = w64} {z = f.least_sum} (omega (arith, m.least_sum_lem))) in
      let high : read w64 f.greatest_sum ≡ f.greatest_sum = to_z-of_z (small {w = w64} {z = f.greatest_sum} (omega (arith, m.greatest_sum_lem))) in
      record {
        low_is = low ∙ least_sum_is (leaf_traces x) (run on.first on.last) f whole;
        high_is = high ∙ greatest_sum_is (leaf_traces x) (run on.first on.last) f whole;
        low_size = rw low (omega (arith, m.least_sum_lem));
        high_size = rw high (omega (arith, m.greatest_sum_lem));
      }

  by_scatter : (low high : ℤ) → (low ≡ pos (floor_root f.least_scatter)) × (nat_abs low ≤ scatter_most most_samples)
      → (high ≡ pos (floor_root f.greatest_scatter)) × (nat_abs high ≤ scatter_most most_samples)
      → TrialExtremes (leaf_traces x) (trial_by on cut column true) low high
  by_scatter low high h k = record {
    low_is = h.0 ∙ least_root_is (leaf_traces x) (run on.first on.last) f whole;
    high_is = k.0 ∙ greatest_root_is (leaf_traces x) (run on.first on.last) f whole;
    low_size = h.1;
    high_size = k.1;
  }

pub try_one-best-requires : goal.try_one-best-requires
try_one-best-requires c =
    let a = c.args in
    let f = c.figures_along-f in
    (c.requires.0, c.requires.1, by_sum a.leaf a.on a.cut (Some a.column) f.result f.ensures.result_value f.ensures.small, c.requires.2)

pub root_of-low-requires : goal.root_of-low-requires
root_of-low-requires c = c.figures_along-f.ensures.small.least_scatter_lem

pub root_of-high-requires : goal.root_of-high-requires
root_of-high-requires c = c.figures_along-f.ensures.small.greatest_scatter_lem

pub try_one-requires : goal.try_one-requires
try_one-requires c =
    let a = c.args in
    let f = c.figures_along-f in
    let low = c.root_of-low in
    let high = c.root_of-high in
    let low_read : read w64 low.result ≡ low.result = to_z-of_z (of_mag {w = w64} low.result low.type_inv) in
    let high_read : read w64 high.result ≡ high.result = to_z-of_z (of_mag {w = w64} high.result high.type_inv) in
    rw (low_read, high_read) (
      c.requires.0,
      c.requires.1,
      by_scatter a.leaf a.on a.cut (Some a.column) f.result f.ensures.result_value low.result high.result low.ensures high.ensures,
      c.try_one-best.ensures.sound,
    )

pub returns : goal.returns
unfolding by_either
returns c =
    let a = c.args in
    let l = a.leaf.rows.traces in
    let all = ends_of a.leaf.ends in record {
      is = c.try_one.ensures.is
          ∙ ap (λ (o : Option Split). tried (stored_of l) all l.list.now o (candidate_by all (trial_by a.on a.cut (Some a.column) true) ∷ [])) c.try_one-best.ensures.is;
      sound = c.try_one.ensures.sound;
    }
