-- `tables::runs::figures_on` meets its contract: the part that is lent is the run's samples.
use mathlib.Core.Path.{◌≡◌, sym, ap, ◌∙◌}
use Prim.Native.Nat.{◌-◌, ◌≤◌}
use native.Mathlib.Nat.{mul-le-mul}
use native.Mathlib.Omega.{arith}
use lib.IntN.{nat_abs}
use lib.ListN.{length, take, drop}
use Rattle.segment.specs.Figures.{sum, scatter}
use Rattle.segment.specs.Stored.{samples_of}
use Rattle.segment.proofs.Stored.{samples_length}
use Rattle.dstree.specs.Figures.{run, samples_on}
use Rattle.segment.specs.Limits.{sum_most, scatter_most}
use Rattle.dstree.specs.Measures.{most_samples}
use Rattle.tables.proofs.Parts.{part_on, part_few, part_of_words}
use Rattle.tables.proofs.runs.figures_on.Goals as goal

pub returns : goal.returns
returns c =
    let a = c.args in
    let w = a.trace.now in
    let x = samples_of w in
    let own = rw (sym (samples_length w)) at c.requires in
    let l = take (a.last - (a.first - 1)) (drop (a.first - 1) w) in
    let r = c.figures_of.result in
    let is : samples_of l ≡ samples_on (run a.first a.last) x = part_of_words (a.last - (a.first - 1)) (a.first - 1) w ∙ part_on x own in
    let e : r.sum ≡ sum (samples_of l) = c.figures_of.ensures.sum.0 in
    let m : nat_abs r.sum ≤ sum_most (length l) = c.figures_of.ensures.sum.1 in
    let f : r.scatter ≡ scatter (samples_of l) = c.figures_of.ensures.scatter in
    let n : r.scatter ≤ scatter_most (length l) = c.figures_of.ensures.size in
    let h : length l ≤ most_samples = part_few w c.requires in record { sum = (e ∙ ap sum is, omega (arith, m, h)); scatter = (f ∙ ap scatter is, omega (arith, n, mul-le-mul h h)) }
