-- What document 01 says of the tree that insertion makes, for every library: any sample limit, measures in range, and traces of n samples
-- each within the limit, no more than the capacity. The statements are those of `specs/Claims`.
use Prim.Native.Nat.{ℕ, ◌*◌, ◌-◌, ◌≤◌, ◌<◌, max}
use mathlib.Core.Path.{◌≡◌}
use mathlib.Core.List.{List, [], ◌∷◌}
use lib.ListN.{length, get_or}
use lib.Dec.{T, leb, leb→le}
use Rattle.integer.specs.Words.{every}
use Rattle.integer.proofs.Tests.{passed}
use Rattle.integer.proofs.Lists.{in_get_or, from_every}
use Rattle.dstree.specs.Measures.{Trace, Measures, within, in_range, is_trace, is_library}
use Rattle.dstree.specs.Node.{Tree, node_at}
use Rattle.dstree.specs.Adding.{tree_of}
use Rattle.dstree.specs.Matching.{own_bound, has_child, bound}
use Rattle.dstree.specs.Formed.{Formed}
use Rattle.dstree.specs.Claims.{ShapeOf, RangesOf, TestsOf, ClaimsOf, ExactTree}
use Rattle.dstree.proofs.Formed.{well_formed_lem}
use Rattle.dstree.proofs.Nodes.{nodes_most}
use Rattle.dstree.proofs.Below.{below_inside, below_root}
use Rattle.dstree.proofs.Invariant.{ranges_of}
pub use Rattle.dstree.proofs.Limits.{trace_length}
use Rattle.dstree.proofs.Libraries.{Library, library_of, traces_are}
use Rattle.dstree.proofs.Grown.{insertion_inner, MadeTree, tree_made}
use Rattle.dstree.proofs.Bounds.{child_bound, root_bound}
use Rattle.dstree.proofs.Routing.{leads_to}
use Rattle.dstree.proofs.Closed.{match_exact}

module _ (limit : ℕ) (m : Measures) (traces : List Trace) (library : T (is_library limit m traces)) where
  abbrev tree : Tree
  tree = tree_of m traces

  facts : Library limit m traces
  facts = library_of limit m traces library

  each : T (every (is_trace limit m.n) traces)
  each = traces_are limit m.n facts.even facts.small

  all_n : (t : ℕ) → t < length traces → length (get_or traces t []) ≡ m.n
  all_n t h = trace_length limit m.n (get_or traces t []) (from_every (is_trace limit m.n) traces each (in_get_or traces t [] h))

  -- the leaf size is 1 at least
  leaf_size : 1 ≤ m.leaf_size
  unfolding in_range
  leaf_size = leb→le 1 m.leaf_size
      (passed (leb 1 m.leaf_size) (leb m.leaf_size 64 ∷ []) (passed (within 1 m.n 256) (within 1 m.capacity 4096 ∷ within 1 m.leaf_size 64 ∷ []) facts.measured).1.1).0

  -- ---- the tree

  made : MadeTree limit m leaf_size traces tree
  made = tree_made limit m leaf_size traces facts.measured facts.room each

  -- the rules of "Well-formed tables", as far as they speak of the tree
  pub formed : Formed limit m (length traces) tree
  formed = made.inv.formed

  -- "the least and greatest sum and scatter of the traces below"
  pub ranges : RangesOf traces tree
  ranges = ranges_of made.inv.exact.ranged

  -- "moving no threshold"; "the trace goes down by the tests .. and joins a leaf"
  pub tests : TestsOf m traces tree
  tests = record {
    kept = λ x. insertion_inner m traces tree x;
    routed = leads_to formed.shape made.inv.exact;
  }

  -- "2c − 1 node records" are enough
  pub node_count_lem : length tree ≤ 2 * length traces - 1
  node_count_lem = nodes_most formed.shape

  pub shape : ShapeOf limit m traces tree
  shape = record { well_formed_lem = well_formed_lem formed; node_count_lem = node_count_lem; over_size = made.whole }

  pub exact : ExactTree limit m traces tree
  exact = record { well_formed_lem = shape.well_formed_lem; of_n = all_n; ranges = ranges }

  -- ---- a query

  -- "A node's bound is the greatest own bound from node 0 down to it": a child's is its own or its parent's, node 0's its own
  pub bound_of_child : (query : Trace) (parent child : ℕ) → T (has_child child (node_at tree parent).kind) → bound tree query child ≡ max (own_bound query (node_at tree child))
      (bound tree query parent)
  bound_of_child query = child_bound tree formed.shape.children.child formed.shape.children.one_parent query

  pub bound_of_root : (query : Trace) → 0 < length traces → bound tree query 0 ≡ own_bound query (node_at tree 0)
  bound_of_root query one = root_bound tree formed.shape.children.child formed.shape.children.one_parent query (below_inside formed.shape (below_root formed.shape 0 one))

  -- "After the list, if the book has a trace, take any query of n samples"
  pub claims : (query : Trace) → 0 < length traces → length query ≡ m.n → ClaimsOf traces tree query
  claims = match_exact limit m traces tree exact
