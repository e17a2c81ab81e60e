-- A first look at records: what a visit to a node shows.
use Rattle.std.specs.Prelude.{ℕ, ◌*◌, ◌≤◌, ◌<◌, ◌≡◌, true, List, ℤ, length}
use Rattle.dstree.specs.Measures.{most_samples, most_traces, most_nodes}
use Rattle.tables.specs.Layout.{record_places}
use Rattle.tables.specs.Tables.{record_of}
use Rattle.records_fit.specs.Fits.{head_fits, records_fit, all_kept, ChildrenUnder}
use Rattle.numbers_fit.specs.Marks.{MarksGrown, Named}
use Rattle.numbers_fit.specs.Tests.{children_at, children_of_first, children_once, first_at, firsts_of}

-- the table has the records of m nodes, and none of the numbers is above its limit
pub record NodesLent (n m k : ℕ) (nodes : List ℤ) : Type 0 where
  pub room : m * record_places ≤ length nodes
  pub low : m ≤ most_nodes
  pub short : n ≤ most_samples
  pub few : k ≤ most_traces

-- node j's head fits, its children's segments hold and keep its ends, and its children and its first trace number are marked
pub record NodeVisited (n m k : ℕ) (nodes : List ℤ) (j : ℕ) (marks marked named after : List ℕ) : Type 0 where
  pub head : head_fits n m j (record_of nodes j) ≡ true
  pub under : ChildrenUnder n nodes j
  pub children : MarksGrown marks marked (children_at nodes j)
  pub first : Named k named after (first_at nodes j) true

-- the same of the first j nodes
pub record VisitedFirst (n m k : ℕ) (nodes : List ℤ) (j : ℕ) (marks marked named after : List ℕ) : Type 0 where
  pub heads : (x : ℕ) → x < j → head_fits n m x (record_of nodes x) ≡ true
  pub unders : (x : ℕ) → x < j → ChildrenUnder n nodes x
  pub children : MarksGrown marks marked (children_of_first nodes j)
  pub firsts : Named k named after (firsts_of nodes j) true

-- all rules on records hold, and the first trace numbers are marked
pub record RecordsPassed (n m k : ℕ) (nodes : List ℤ) (named after : List ℕ) : Type 0 where
  pub some : 0 < m
  pub fit : records_fit n m nodes ≡ true
  pub kept : all_kept m nodes ≡ true
  pub once : children_once m nodes ≡ true
  pub firsts : Named k named after (firsts_of nodes m) true
