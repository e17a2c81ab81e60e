-- `split_choice::choice::try_one` meets its contract: a candidate parts the leaf exactly if both its sides are seen, and then the better of
-- it and the best so far is kept.
use Rattle.std.specs.Prelude.{Some}
use mathlib.Core.Path.{◌≡◌, sym, ap, ap₂, subst, ◌∙◌}
use mathlib.Core.Bool.{true}
use mathlib.Core.List.{List, map}
use Prim.Native.Nat.{ℕ, ◌*◌, ◌≤◌}
use lib.IntN.{ℤ, nat_abs, ◌+ℤ◌}
use lib.Signed.{lt_z}
use mir.Syntax.{w64}
use mir.Facts.{to_z-of_z}
use Rattle.integer.specs.Words.{least_ℤ, greatest_ℤ}
use Rattle.integer.proofs.Width.{of_mag, read}
use Rattle.segment.specs.Limits.{scatter_most}
use Rattle.dstree.specs.Measures.{Trace, most_samples}
use Rattle.dstree.specs.Figures.{run}
use Rattle.dstree.specs.Node.{figure_of}
use Rattle.dstree.specs.Adding.{traces_of, threshold_of}
use Rattle.tables.specs.Runs.{figure_by}
use Rattle.leaf_figures.specs.Ends.{ends_of}
use Rattle.leaf_figures.specs.Rows.{stored_of}
use Rattle.split_choice.specs.Choosing.{chosen_by, better_of, ChoiceFound}
use Rattle.split_choice.specs.declared.choice.Choice.{Choice}
use Rattle.candidate.specs.Trials.{TrialExtremes}
use Rattle.candidate.specs.Siding.{trial_test}
use Rattle.candidate.specs.Parting.{look_of}
use Rattle.candidate.specs.declared.siding.Trial.{Trial}
use Rattle.candidate.specs.declared.parting.Look.{Look}
use Rattle.candidate.proofs.Seen.{seen_below}
use Rattle.candidate.proofs.Threshold.{low_back, high_back, sum_small, sum_fits, sum_back}
use Rattle.split_choice.proofs.Tried.{one_whole, one_chosen, one_sound, choice_of}
use Rattle.split_choice.proofs.choice.try_one.Goals as goal

module _ (stored : List Trace) (numbers : List ℕ) (c : Trial) where
  -- the figures of the candidate
  abbrev figures : List ℤ
  figures = map (figure_of (figure_by c.by_scatter) (run c.on.first c.on.last)) (traces_of stored numbers)

  -- what is seen is what the least and the greatest figure say
  below_is : (low high : ℤ) → TrialExtremes (traces_of stored numbers) c low high → (seen : Look) → seen ≡ look_of stored (trial_test c (read w64 low +ℤ read w64 high)) numbers
      → lt_z (least_ℤ figures) (greatest_ℤ figures) ≡ seen.both
  unfolding threshold_of
  below_is low high r seen e =
      let sum : read w64 low +ℤ read w64 high ≡ least_ℤ figures +ℤ greatest_ℤ figures =
      ap₂ ◌+ℤ◌ (low_back low high r.low_size r.high_size ∙ r.low_is) (high_back low high r.low_size r.high_size ∙ r.high_is) in
      sym (ap (λ (x : Look). x.both) e ∙ seen_below stored numbers c (read w64 low +ℤ read w64 high) sum)

pub look_at-seen-requires : goal.look_at-seen-requires
look_at-seen-requires c =
    let p = c.requires in
    let back = low_back c.args.low c.args.high p.2.low_size p.2.high_size in
    let back_2 = high_back c.args.low c.args.high p.2.low_size p.2.high_size in
    (p.1.inside, rw (back, back_2) p.2)

pub overflow_add-threshold : goal.overflow_add-threshold
overflow_add-threshold c =
    sum_fits c.args.low c.args.high c.requires.2.low_size c.requires.2.high_size

pub returns-then-seen : goal.returns-then-seen
unfolding threshold_of
returns-then-seen c =
    let a = c.args in
    let r = c.requires.2 in
    let g = c.gain_of-gain in
    let l = a.leaf.rows.traces in
    let stored = stored_of l in
    let all = ends_of a.leaf.ends in
    let numbers = l.list.now in
    let t : ℤ = read w64 (read w64 a.low +ℤ read w64 a.high) in
    let sum = sum_back a.low a.high r.low_size r.high_size in
    let t_is : t ≡ least_ℤ (figures stored numbers a.trial) +ℤ greatest_ℤ (figures stored numbers a.trial) = sum ∙ ap₂ ◌+ℤ◌ r.low_is r.high_is in
    let above : lt_z (least_ℤ (figures stored numbers a.trial)) (greatest_ℤ (figures stored numbers a.trial)) ≡ true =
    below_is stored numbers a.trial a.low a.high r c.look_at-seen.result c.look_at-seen.ensures ∙ c.if-seen.true in
    let small_t : nat_abs t ≤ 2 * scatter_most most_samples = rw sum (sum_small a.low a.high r.low_size r.high_size) in
    let e : c.better.result ≡ better_of a.old (choice_of a.trial t g.result) =
    c.better.ensures ∙ ap (λ (z : ℤ). better_of a.old (choice_of a.trial t z)) (to_z-of_z (of_mag {w = w64} g.result g.type_inv)) in record {
      is = ap (λ (x : Choice). chosen_by stored all numbers (Some x)) e
          ∙ one_chosen stored all numbers l.n a.old c.requires.3 a.trial t g.result above t_is g.ensures.value small_t c.requires.1;
      sound = subst (ChoiceFound l.n stored all numbers) (sym e)
          (one_sound stored all numbers l.n a.old c.requires.3 a.trial t g.result above t_is g.ensures.value small_t c.requires.1);
    }

pub returns : goal.returns
returns c =
    let l = c.args.leaf.rows.traces in
    record {
      is = one_whole (stored_of l) (ends_of c.args.leaf.ends) l.list.now c.args.old c.args.trial
          (below_is (stored_of l) l.list.now c.args.trial c.args.low c.args.high c.requires.2 c.look_at-seen.result c.look_at-seen.ensures ∙ c.if-seen.false);
      sound = c.requires.3;
    }
