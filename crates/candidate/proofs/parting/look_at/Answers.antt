-- `candidate::parting::look_at` meets its contract: where the least figure is not below the greatest, there is one side to be seen.
use mathlib.Core.Path.{◌≡◌, sym, ap, ap₂, ◌∙◌}
use mathlib.Core.List.{List}
use lib.IntN.{ℤ, ◌+ℤ◌}
use lib.Signed.{lt_z}
use Rattle.dstree.specs.Measures.{Trace}
use Rattle.dstree.specs.Figures.{run}
use Rattle.dstree.specs.Adding.{traces_of, threshold_of}
use Rattle.tables.specs.Runs.{figure_by}
use Rattle.leaf_figures.specs.Rows.{stored_of}
use Rattle.candidate.specs.Siding.{trial_test}
use Rattle.candidate.specs.Trials.{TrialExtremes}
use Rattle.candidate.specs.declared.siding.Trial.{Trial}
use Rattle.candidate.specs.Parting.{look_of}
use Rattle.candidate.proofs.Seen.{seen_whole, seen_below}
use Rattle.candidate.proofs.Threshold.{low_back, high_back, sum_fits, sum_back}
use Rattle.candidate.proofs.parting.look_at.Goals as goal

threshold_is : (traces : List Trace) (c : Trial) (low high : ℤ) → TrialExtremes traces c low high
    → low +ℤ high ≡ threshold_of (figure_by c.by_scatter) (run c.on.first c.on.last) traces
unfolding threshold_of
threshold_is traces c low high x = ap₂ ◌+ℤ◌ x.low_is x.high_is

pub overflow_add-low : goal.overflow_add-low
overflow_add-low c = sum_fits c.args.low c.args.high c.requires.1.low_size c.requires.1.high_size

pub returns-then-low-high : goal.returns-then-low-high
returns-then-low-high c =
    let a = c.args in
    let l = a.rows.traces in
    c.look_along.ensures
    ∙ ap (λ (z : ℤ). look_of (stored_of l) (trial_test a.c z) l.list.now) (sum_back a.low a.high c.requires.1.low_size c.requires.1.high_size)

pub returns : goal.returns
returns c =
    let a = c.args in
    let l = a.rows.traces in
    let r = c.requires.1 in
    let test = ap₂ lt_z (sym r.low_is ∙ sym (low_back a.low a.high r.low_size r.high_size))
    (sym r.high_is ∙ sym (high_back a.low a.high r.low_size r.high_size)) in
    seen_whole (stored_of l) l.list.now (trial_test a.c (a.low +ℤ a.high))
    (seen_below (stored_of l) l.list.now a.c (a.low +ℤ a.high) (threshold_is (traces_of (stored_of l) l.list.now) a.c a.low a.high r) ∙ (test ∙ c.if-low-high.false))
