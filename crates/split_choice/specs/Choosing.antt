-- The best candidate so far, as code keeps it, and what one candidate more makes of it.
use Rattle.std.specs.Prelude.{ℕ, ◌*◌, ◌≤◌, ◌≡◌, Option, Some, None, IfSome, ℤ, nat_abs, if◌then◌else◌}
use Rattle.std.proofs.Math.Option as maybe
use mathlib.Core.List.{List, foldl}
use Rattle.std.specs.Int.Signed.{lt_z}
use Rattle.segment.specs.Limits.{scatter_most}
use Rattle.dstree.specs.Measures.{Trace, most_samples}
use Rattle.dstree.specs.Adding.{Candidate, Split, split_by_test, split_by, parts, gain, traces_of}
use Rattle.tables.specs.Walk.{stored_in, numbers_of}
use Rattle.leaf_figures.specs.Ends.{ends_of}
use Rattle.leaf_figures.specs.Rows.{stored_of}
use Rattle.leaf_figures.specs.declared.ends.Ends.{Ends}
use Rattle.candidate.specs.Siding.{trial_test}
use Rattle.candidate.specs.Trials.{child_ends, TrialFits}
use Rattle.candidate.specs.declared.leaf.Leaf.{Leaf}
use Rattle.split_choice.specs.declared.choice.Choice.{Choice}

-- the split of a choice
abbrev pub split_of : List Trace → List ℕ → List ℕ → Choice → Split
split_of stored all numbers r = split_by_test stored numbers (trial_test r.trial r.threshold) (child_ends r.trial.cut all)

-- what a choice stands for, if there is one
abbrev pub chosen_by : List Trace → List ℕ → List ℕ → Option Choice → maybe.Option Split
chosen_by stored all numbers None = maybe.none
chosen_by stored all numbers (Some r) = maybe.some (split_of stored all numbers r)

-- the new one if its gain is above, or if there was none
abbrev pub better_of : Option Choice → Choice → Choice
better_of None new = new
better_of (Some old) new = if lt_z old.gain new.gain then new else old

-- ---- the same of splits

abbrev pub better_split : (Split → ℤ) → maybe.Option Split → Split → maybe.Option Split
better_split gain_of maybe.none s = maybe.some s
better_split gain_of (maybe.some a) s = maybe.some (if lt_z (gain_of a) (gain_of s) then s else a)

-- one candidate more, which counts only if it parts the leaf
abbrev pub try_one : List Trace → List ℕ → List ℕ → maybe.Option Split → Candidate → maybe.Option Split
try_one stored all numbers o c =
    if parts (split_by stored numbers c) then better_split (gain stored all numbers) o (split_by stored numbers c) else o

abbrev pub tried : List Trace → List ℕ → List ℕ → maybe.Option Split → List Candidate → maybe.Option Split
tried stored all numbers = foldl (try_one stored all numbers)

-- ---- what callers may rely on

-- a choice: its gain, its threshold, and its run and ends
pub record ChoiceFound (n : ℕ) (stored : List Trace) (all numbers : List ℕ) (r : Choice) : Type 0 where
  pub gain_is : r.gain ≡ gain stored all numbers (split_of stored all numbers r)
  pub size : nat_abs r.threshold ≤ 2 * scatter_most most_samples
  pub fit : TrialFits n all r.trial

abbrev pub ChoiceSound : ℕ → List Trace → List ℕ → List ℕ → Option Choice → Type 0
ChoiceSound n stored all numbers r = IfSome r (ChoiceFound n stored all numbers)

abbrev pub ChoiceSoundIn : List ℤ → List ℕ → ℕ → ℕ → ℕ → Ends → Option Choice → Type 0
ChoiceSoundIn samples links n k head e r = ChoiceSound n (stored_in samples n k) (ends_of e) (numbers_of links k head) r

abbrev pub chosen_in : List ℤ → List ℕ → ℕ → ℕ → ℕ → Ends → Option Choice → maybe.Option Split
chosen_in samples links n k head e r = chosen_by (stored_in samples n k) (ends_of e) (numbers_of links k head) r

-- what some candidates make of the best so far
pub record After (n : ℕ) (stored : List Trace) (all numbers : List ℕ) (old : Option Choice) (cs : List Candidate) (r : Option Choice) : Type 0 where
  pub is : chosen_by stored all numbers r ≡ tried stored all numbers (chosen_by stored all numbers old) cs
  pub sound : ChoiceSound n stored all numbers r

-- ---- of a leaf

abbrev pub leaf_traces : Leaf → List Trace
leaf_traces x = traces_of (stored_of x.rows.traces) x.rows.traces.list.now

abbrev pub SoundFor : Leaf → Option Choice → Type 0
SoundFor x r = ChoiceSound x.rows.traces.n (stored_of x.rows.traces) (ends_of x.ends) x.rows.traces.list.now r

abbrev pub AfterIn : Leaf → Option Choice → List Candidate → Option Choice → Type 0
AfterIn x old cs r = After x.rows.traces.n (stored_of x.rows.traces) (ends_of x.ends) x.rows.traces.list.now old cs r
