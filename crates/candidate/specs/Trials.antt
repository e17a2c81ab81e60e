-- One candidate of a leaf, as code holds it: what it stands for.
use Rattle.std.specs.Prelude.{ℕ, ◌≤◌, ◌<◌, ◌≡◌, Bool, Option, Some, None, is_some, IsTrue, List, map, ℤ, nat_abs, length}
use Rattle.integer.specs.Words.{least_ℤ, greatest_ℤ}
use Rattle.segment.specs.Limits.{scatter_most}
use Rattle.dstree.specs.Measures.{Trace, most_samples}
use Rattle.dstree.specs.Figures.{run}
use Rattle.dstree.specs.Node.{figure_of, most_segments}
use Rattle.dstree.specs.Adding.{Candidate, cut_at}
use Rattle.dstree.specs.Formed.{Rises}
use Rattle.tables.specs.Runs.{figure_by, Inside}
use Rattle.leaf_figures.specs.declared.table.Run.{Run}
use Rattle.candidate.specs.declared.siding.Trial.{Trial}

-- the children's right ends: the leaf's own, or with one more, where there is a cut
abbrev pub child_ends : Option ℕ → List ℕ → List ℕ
child_ends None all = all
child_ends (Some cut) all = cut_at cut all

-- a trial by its parts
abbrev pub trial_by : Run → Option ℕ → Option ℕ → Bool → Trial
trial_by on cut column flag = record { on = on; by_scatter = flag; cut = cut; column = column }

-- a trial as a candidate of a node with these right ends
abbrev pub candidate_by : List ℕ → Trial → Candidate
candidate_by all c = record { on = run c.on.first c.on.last; figure = figure_by c.by_scatter; child_ends = child_ends c.cut all }

-- a run inside 1 to n, and children's ends that rise and have room
pub record CutFits (n : ℕ) (all : List ℕ) (on : Run) (cut : Option ℕ) : Type 0 where
  pub inside : Inside n on.first on.last
  pub room : IsTrue (is_some cut) → length all < most_segments
  pub rise : Rises n 1 (child_ends cut all)

abbrev pub TrialFits : ℕ → List ℕ → Trial → Type 0
TrialFits n all c = CutFits n all c.on c.cut

-- the least and the greatest figure of some traces on a trial's run
pub record TrialExtremes (traces : List Trace) (c : Trial) (low high : ℤ) : Type 0 where
  pub low_is : low ≡ least_ℤ (map (figure_of (figure_by c.by_scatter) (run c.on.first c.on.last)) traces)
  pub high_is : high ≡ greatest_ℤ (map (figure_of (figure_by c.by_scatter) (run c.on.first c.on.last)) traces)
  pub low_size : nat_abs low ≤ scatter_most most_samples
  pub high_size : nat_abs high ≤ scatter_most most_samples
