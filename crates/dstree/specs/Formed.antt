-- Document 01's rules for "Well-formed tables", as far as they speak of the tree, as facts: each says of every node, child, trace or
-- segment what the test `well_formed_tree` computes over lists. The test passes exactly if the facts hold (`proofs/Formed`). `Shape` is what
-- bears on where nodes and traces stand; with measures and limits it is `Formed`.
use Rattle.std.specs.Prelude.{ℕ, suc, ◌*◌, ◌≤◌, ◌<◌, ◌≡◌, List, [], ◌∷◌, length, ℤ, pos, nat_abs, ◌≤ℤ◌, T}
use Rattle.integer.specs.Words.{is_in}
use Rattle.integer.specs.Lists.{In, Up}
use Rattle.segment.specs.Limits.{sum_limit, scatter_limit, root_limit}
use Rattle.dstree.specs.Measures.{Measures, in_range}
use Rattle.dstree.specs.Figures.{Run, run, width}
use Rattle.dstree.specs.Node.{Segment, Figure, by_sum, by_scatter, Test, leaf, inner, Tree, node_at, ends, most_segments}
use Rattle.dstree.specs.Matching.{has_child, numbers_in}

-- ---- right ends

-- the segments with these right ends, the first from sample `from` on, part the samples from there to n, none of them empty
pub data Parted (n : ℕ) : ℕ → List ℕ → Type 0 where
  p_last : {from : ℕ} → from ≤ n → Parted n from (n ∷ [])
  p_more : {from e : ℕ} {rest : List ℕ} → from ≤ e → Parted n (suc e) rest → Parted n from (e ∷ rest)

-- right ends that rise from sample `from` on, none above n
pub data Rises (n : ℕ) : ℕ → List ℕ → Type 0 where
  rises_none : {from : ℕ} → Rises n from []
  rises_more : {from end : ℕ} {rest : List ℕ} → from ≤ end → end ≤ n → Rises n (suc end) rest → Rises n from (end ∷ rest)

-- "1 to 16 segments by their right ends", "rising, last n"
pub record Fits (n : ℕ) (es : List ℕ) : Type 0 where
  pub parted : Parted n 1 es
  pub few : length es ≤ most_segments

-- "a run inside 1 to n", of one sample or more
pub record RunIn (n : ℕ) (r : Run) : Type 0 where
  pub from_1 : 1 ≤ r.first
  pub rises : r.first ≤ r.last
  pub to_n : r.last ≤ n

-- ---- where nodes and traces stand

-- a node has a parent
pub record Parent (tree : Tree) (k : ℕ) : Type 0 where
  pub parent : ℕ
  pub has : T (has_child k (node_at tree parent).kind)

-- a trace number is in a leaf
pub record Kept (tree : Tree) (t : ℕ) : Type 0 where
  pub at : ℕ
  pub holds : T (is_in t (numbers_in (node_at tree at).kind))

-- where children stand
pub record Children (tree : Tree) : Type 0 where
  -- "inner children numbered above their parent", and nodes
  pub child : (p c : ℕ) → T (has_child c (node_at tree p).kind) → (p < c) × (c < length tree)
  -- "every node but 0 a child once": of some node, of no two, and not both children of one
  pub parented : (k : ℕ) → 0 < k → k < length tree → Parent tree k
  pub one_parent : (p q c : ℕ) → T (has_child c (node_at tree p).kind) → T (has_child c (node_at tree q).kind) → p ≡ q
  pub children_differ : (p : ℕ) (test : Test) (left right : ℕ) → (node_at tree p).kind ≡ inner test left right → left ≡ right → ⊥

-- a tree over `count` traces of n samples
pub record Shape (n count : ℕ) (tree : Tree) : Type 0 where
  -- "no node exactly when no trace"
  pub no_trace : length tree ≡ 0 → count ≡ 0
  pub no_node : count ≡ 0 → length tree ≡ 0
  pub children : Children tree
  -- "at most 16 ends, rising, last n"
  pub fits : (k : ℕ) → k < length tree → Fits n (ends (node_at tree k).segments)
  -- "a child's ends including its parent's"
  pub ends_kept_lem : (p c : ℕ) → T (has_child c (node_at tree p).kind)
      → (e : ℕ) → In e (ends (node_at tree p).segments) → In e (ends (node_at tree c).segments)
  -- "every trace number in one leaf", and no other number
  pub kept : (t : ℕ) → t < count → Kept tree t
  pub one_leaf : (t j k : ℕ) → T (is_in t (numbers_in (node_at tree j).kind)) → T (is_in t (numbers_in (node_at tree k).kind)) → j ≡ k
  pub numbers : (t k : ℕ) → T (is_in t (numbers_in (node_at tree k).kind)) → t < count
  -- "rising there"
  pub rises : (k : ℕ) (ns : List ℕ) → (node_at tree k).kind ≡ leaf ns → Up 0 ns
  -- "no leaf empty"
  pub full : (k : ℕ) → k < length tree → (ns : List ℕ) → (node_at tree k).kind ≡ leaf ns → 0 < length ns

-- ---- limits, for samples from −limit to limit − 1

-- the figures of a segment that is w wide
pub record Limited (limit w : ℕ) (s : Segment) : Type 0 where
  -- "least ≤ greatest"
  pub sums : s.least_sum ≤ℤ s.greatest_sum
  pub scatters : s.least_scatter ≤ s.greatest_scatter
  -- sums within document 02 §9's "w × 524,288" either side of 0
  pub least_sum_lem : nat_abs s.least_sum ≤ sum_limit limit w
  pub greatest_sum_lem : nat_abs s.greatest_sum ≤ sum_limit limit w
  -- scatters 0 to "w² × 2^38"
  pub greatest_scatter_lem : s.greatest_scatter ≤ scatter_limit limit w

-- .. of each segment, the first from sample `from` on
pub data AllLimited (limit : ℕ) : ℕ → List Segment → Type 0 where
  l_none : {from : ℕ} → AllLimited limit from []
  l_more : {from : ℕ} {s : Segment} {rest : List Segment} → Limited limit (width (run from s.end)) s
      → AllLimited limit (suc s.end) rest → AllLimited limit from (s ∷ rest)

-- "T between twice those limits", on a run that is w wide; by scatter, document 02 §9, "2 × w × 524,288"
abbrev pub Between : ℕ → Figure → ℕ → ℤ → Type 0
Between limit by_sum w t = nat_abs t ≤ 2 * sum_limit limit w
Between limit by_scatter w t = (pos 0 ≤ℤ t) × (t ≤ℤ pos (2 * root_limit limit w))

pub record TestIn (limit n : ℕ) (test : Test) : Type 0 where
  pub run_in : RunIn n test.on
  pub threshold_in : Between limit test.figure (width test.on) test.threshold

-- the figures that a tree records, and its tests
pub record Limits (limit n : ℕ) (tree : Tree) : Type 0 where
  -- "least ≤ greatest"; document 02, §9: "The well-formed limits become w × 524,288 and w² × 2^38"
  pub figures : (k : ℕ) → k < length tree → AllLimited limit 1 (node_at tree k).segments
  -- "T between twice those limits, on a run inside 1 to n"
  pub tests : (k : ℕ) (test : Test) (left right : ℕ) → (node_at tree k).kind ≡ inner test left right → TestIn limit n test

-- ---- all of it. (That "every kind field [is] a value that its layout names" is said where the layout is)

pub record Formed (limit : ℕ) (m : Measures) (count : ℕ) (tree : Tree) : Type 0 where
  -- "measures in range"
  pub measured : T (in_range m)
  -- "trace count at most capacity"
  pub room : count ≤ m.capacity
  pub shape : Shape m.n count tree
  pub limits : Limits limit m.n tree
