-- What has to hold so that a leaf can be tried, and split by a choice.
use Rattle.std.specs.Prelude.{ℕ, suc, ◌*◌, ◌≤◌, ◌<◌, ◌≡◌, List, ℤ, nat_abs, length}
use Rattle.std.proofs.Math.Option.{some}
use Rattle.segment.specs.Limits.{scatter_most}
use Rattle.dstree.specs.Measures.{most_samples, most_nodes}
use Rattle.dstree.specs.Node.{ends, most_segments}
use Rattle.dstree.specs.Adding.{Split, best}
use Rattle.dstree.specs.Formed.{Rises}
use Rattle.tables.specs.Layout.{kind_place, segments_place, first_place, record_places}
use Rattle.tables.specs.Tables.{record_of}
use Rattle.tables.specs.View.{small_at, segments_in}
use Rattle.tables.specs.Walk.{stored_in, numbers_of, Stored}
use Rattle.leaf_figures.specs.Ends.{ends_of, EndsRoom}
use Rattle.leaf_figures.specs.declared.ends.Ends.{Ends}
use Rattle.split_choice.specs.Choosing.{split_of}
use Rattle.candidate.specs.Trials.{TrialFits}
use Rattle.split_choice.specs.declared.choice.Choice.{Choice}

-- both sides have a trace, and there is room for two nodes more
pub record TwoSides (nodes : List ℤ) (count : ℕ) (cut : Split) : Type 0 where
  pub left_some : 0 < length cut.left
  pub right_some : 0 < length cut.right
  pub room : suc (suc count) * record_places ≤ length nodes
  pub few : suc count ≤ most_nodes

-- node `at` is the leaf whose list starts at `head`, with the right ends e, and a choice parts it
pub record Parts (nodes : List ℤ) (links : List ℕ) (samples : List ℤ) (n k count at head : ℕ) (e : Ends) (c : Choice) : Type 0 where
  pub inside : at < count
  pub stored : Stored samples links n k head
  pub room : EndsRoom e
  pub fit : TrialFits n (ends_of e) c.trial
  pub threshold_size : nat_abs c.threshold ≤ 2 * scatter_most most_samples
  pub parted : TwoSides nodes count (split_of (stored_in samples n k) (ends_of e) (numbers_of links k head) c)

-- node `at`, if it is a leaf: its list, its right ends, and room for two nodes more if a split parts it
pub record IsLeaf (nodes : List ℤ) (links : List ℕ) (samples : List ℤ) (n k count at : ℕ) : Type 0 where
  pub stored : Stored samples links n k (small_at (record_of nodes at) first_place)
  pub few : small_at (record_of nodes at) segments_place ≤ most_segments
  pub rise : Rises n 1 (ends (segments_in (record_of nodes at)))
  pub parted : (cut : Split) → best (stored_in samples n k) (ends (segments_in (record_of nodes at)))
      (numbers_of links k (small_at (record_of nodes at) first_place)) ≡ some cut → TwoSides nodes count cut

pub record Splits (nodes : List ℤ) (links : List ℕ) (samples : List ℤ) (n k count at : ℕ) : Type 0 where
  pub inside : at < count
  pub room : count * record_places ≤ length nodes
  pub few : count ≤ suc most_nodes
  pub is_leaf : small_at (record_of nodes at) kind_place ≡ 0 → IsLeaf nodes links samples n k count at
