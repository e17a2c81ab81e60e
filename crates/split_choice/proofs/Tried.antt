-- Candidates tried one after another leave the best split, and a choice stands for the best of those tried.
use Rattle.std.specs.Prelude.{if◌then◌else◌}
use mathlib.Core.Path.{◌≡◌, refl, sym, ap, ◌∙◌}
use mathlib.Core.Bool.{Bool, true, false}
use Rattle.std.specs.Prelude.{Option as OptionOf, Some, None}
use mathlib.Core.Option.{Option, none, some}
use mathlib.Core.List.{List, [], ◌∷◌, ◌++◌, map, foldl, foldl-append}
use Prim.Native.Nat.{ℕ, suc, ◌+◌, ◌*◌, ◌≤◌}
use native.Mathlib.Numerals.{add-one}
use lib.IntN.{ℤ, nat_abs}
use lib.Signed.{lt_z}
use Rattle.integer.specs.Words.{those, least_ℤ, greatest_ℤ}
use Rattle.integer.proofs.Lists.{}
use Rattle.segment.specs.Limits.{scatter_most}
use Rattle.dstree.specs.Measures.{Trace, most_samples}
use Rattle.dstree.specs.Figures.{run}
use Rattle.dstree.specs.Node.{figure_of}
use Rattle.dstree.specs.Adding.{Candidate, candidates, candidates_from, by_either, halves, Split, threshold_of, test_of, split_by_test, split_by, parts, gain, best_by, best, traces_of}
use Rattle.dstree.proofs.Parting.{parting}
use Rattle.tables.specs.Runs.{figure_by, test_by}
use Rattle.split_choice.specs.Choosing.{split_of, chosen_by, better_of, better_split, try_one, tried, ChoiceFound, ChoiceSound}
use Rattle.candidate.specs.Trials.{child_ends, candidate_by, TrialFits}
use Rattle.candidate.specs.declared.siding.Trial.{Trial}
use Rattle.split_choice.specs.declared.choice.Choice.{Choice}

-- ---- all candidates tried

fold_better : (gain_of : Split → ℤ) (a : Split) (l : List Split) → foldl (better_split gain_of) (some a) l ≡ some (foldl (λ x y. if lt_z (gain_of x) (gain_of y) then y else x) a l)
fold_better gain_of a [] = refl
fold_better gain_of a (s ∷ l) = fold_better gain_of (if lt_z (gain_of a) (gain_of s) then s else a) l

best_of : (gain_of : Split → ℤ) (l : List Split) → foldl (better_split gain_of) none l ≡ best_by gain_of l
unfolding best_by
best_of gain_of [] = refl
best_of gain_of (s ∷ l) = fold_better gain_of s l

-- a choice of one trial
abbrev pub choice_of : Trial → ℤ → ℤ → Choice
choice_of c threshold g = record { trial = c; threshold = threshold; gain = g }

module _ (stored : List Trace) (all numbers : List ℕ) where
  tried_parting : (o : Option Split) (cs : List Candidate) → tried stored all numbers o cs ≡ foldl (better_split (gain stored all numbers)) o (those parts (map (split_by stored numbers) cs))
  unfolding those
  tried_parting o [] = refl
  tried_parting o (c ∷ cs) = by (parts (split_by stored numbers c)) (λ (p : Option Split). tried_parting p cs)
    where
      by : (b : Bool) → ((p : Option Split) → tried stored all numbers p cs ≡ foldl (better_split (gain stored all numbers)) p (those parts (map (split_by stored numbers) cs)))
          → tried stored all numbers (if b then better_split (gain stored all numbers) o (split_by stored numbers c) else o) cs
          ≡ foldl (better_split (gain stored all numbers)) o (if b then split_by stored numbers c ∷ those parts (map (split_by stored numbers) cs) else those parts (map (split_by stored numbers) cs))
      by true rec = rec (better_split (gain stored all numbers) o (split_by stored numbers c))
      by false rec = rec o

  pub all_tried : tried stored all numbers none (candidates all) ≡ best stored all numbers
  unfolding best
  all_tried = tried_parting none (candidates all) ∙ best_of (gain stored all numbers) (those parts (map (split_by stored numbers) (candidates all)))

  -- a segment's candidates, then those behind it
  pub segment_tried : (o : Option Split) (first end : ℕ) (rest : List ℕ)
      → tried stored all numbers o (candidates_from all first (end ∷ rest))
      ≡ tried stored all numbers (tried stored all numbers o (by_either (run first end) all ++ halves all (run first end))) (candidates_from all (end + 1) rest)
  unfolding candidates_from
  segment_tried o first end rest =
      rw (add-one end)
      (foldl-append (try_one stored all numbers) o (by_either (run first end) all ++ halves all (run first end)) (candidates_from all (suc end) rest))

  -- ---- one candidate tried

  abbrev figures : Trial → List ℤ
  figures c = map (figure_of (figure_by c.by_scatter) (run c.on.first c.on.last)) (traces_of stored numbers)

  split_is : (c : Trial) (threshold : ℤ) → threshold ≡ threshold_of (figure_by c.by_scatter) (run c.on.first c.on.last) (traces_of stored numbers)
      → split_by stored numbers (candidate_by all c) ≡ split_by_test stored numbers (test_by c.on.first c.on.last c.by_scatter threshold) (child_ends c.cut all)
  unfolding split_by test_of
  split_is c threshold e = ap (λ (t : ℤ). split_by_test stored numbers (test_by c.on.first c.on.last c.by_scatter t) (child_ends c.cut all)) (sym e)

  -- it does not part the leaf
  pub one_whole : (old : OptionOf Choice) (c : Trial) → lt_z (least_ℤ (figures c)) (greatest_ℤ (figures c)) ≡ false
      → chosen_by stored all numbers old ≡ tried stored all numbers (chosen_by stored all numbers old) (candidate_by all c ∷ [])
  one_whole old c e = rw (parting stored numbers (candidate_by all c), e)

  module _ (n : ℕ) (new : Choice) (good : ChoiceFound n stored all numbers new) where
    better_chosen : (old : OptionOf Choice) → ChoiceSound n stored all numbers old → chosen_by stored all numbers (Some (better_of old new))
        ≡ better_split (gain stored all numbers) (chosen_by stored all numbers old) (split_of stored all numbers new)
    better_chosen None sound = refl
    better_chosen (Some old) sound = on (lt_z old.gain new.gain) refl
      where
        on : (t : Bool) → lt_z old.gain new.gain ≡ t
            → chosen_by stored all numbers (Some (if t then new else old))
            ≡ some (if lt_z (gain stored all numbers (split_of stored all numbers old)) (gain stored all numbers (split_of stored all numbers new)) then
            split_of stored all numbers new else split_of stored all numbers old)
        on true q = rw (← sound.gain_is, ← good.gain_is, q)
        on false q = rw (← sound.gain_is, ← good.gain_is, q)

    better_sound : (old : OptionOf Choice) → ChoiceSound n stored all numbers old → ChoiceFound n stored all numbers (better_of old new)
    better_sound None sound = good
    better_sound (Some old) sound = on (lt_z old.gain new.gain)
      where
        on : (t : Bool) → ChoiceFound n stored all numbers (if t then new else old)
        on true = good
        on false = sound

  -- it parts the leaf
  module _ (n : ℕ) (old : OptionOf Choice) (sound : ChoiceSound n stored all numbers old) (c : Trial) (threshold g : ℤ)
      (above : lt_z (least_ℤ (figures c)) (greatest_ℤ (figures c)) ≡ true)
      (t_is : threshold ≡ threshold_of (figure_by c.by_scatter) (run c.on.first c.on.last) (traces_of stored numbers))
      (g_is : g ≡ gain stored all numbers (split_by_test stored numbers (test_by c.on.first c.on.last c.by_scatter threshold) (child_ends c.cut all)))
      (small : nat_abs threshold ≤ 2 * scatter_most most_samples) (fit : TrialFits n all c) where
    good : ChoiceFound n stored all numbers (choice_of c threshold g)
    good = record { gain_is = g_is; size = small; fit = fit }

    pub one_chosen : chosen_by stored all numbers (Some (better_of old (choice_of c threshold g)))
        ≡ tried stored all numbers (chosen_by stored all numbers old) (candidate_by all c ∷ [])
    one_chosen =
        better_chosen n (choice_of c threshold g) good old sound
        ∙ rw (parting stored numbers (candidate_by all c), above, split_is c threshold t_is)

    pub one_sound : ChoiceFound n stored all numbers (better_of old (choice_of c threshold g))
    one_sound = better_sound n (choice_of c threshold g) good old sound
