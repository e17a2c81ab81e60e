-- What is known of tables that are ready for a search: where records lie, what their nodes are, and what may be asked of them.
use Prim.Native.Nat.{ℕ, zero, suc, ◌+◌, ◌*◌, ◌≤◌, ◌<◌}
use mathlib.Core.Path.{◌≡◌, refl, sym, subst}
use mathlib.Core.List.{List, [], ◌∷◌, map}
use native.Mathlib.Nat.{mul-le-mul_right}
use native.Mathlib.Omega.{arith}
use native.Mathlib.Decide.{dec_le}
use lib.IntN.{ℤ}
use lib.ListN.{length}
use Rattle.integer.specs.Words.{counting}
use Rattle.integer.proofs.Lists.{In, first, in_is, those_lengths}
use Rattle.integer.proofs.Times.{counting_length}
use Rattle.dstree.specs.Measures.{Trace, sample_limit, samples_needed, records_needed, links_needed, work_needed}
use Rattle.dstree.specs.Node.{Tree, node_at}
use Rattle.dstree.specs.Matching.{is_leaf_kind, leaves}
use Rattle.dstree.proofs.Formed.{Formed, well_formed_lem}
use Rattle.dstree.proofs.Nodes.{nodes_at_most}
use Rattle.tables.specs.Layout.{kind_place, first_place, record_places}
use Rattle.tables.specs.Tables.{Tables, measures_of, trace_count, node_count, record_of}
use Rattle.tables.specs.View.{small_at, numbers_from, kind_in, node_in, tree_in, shape_in}
use Rattle.tables.specs.Judge.{InRange}
use Rattle.tables.specs.Walk.{numbers_of, Stored}
use Rattle.tables.proofs.Views.{tree_size, tree_numbers, tree_formed, measures_fit, kind_named}
use Rattle.tables.proofs.Linked.{tables_rise}
use Rattle.query.specs.Bounded.{Bounded}
use Rattle.query.proofs.FromRules.{bounded_at}
use Rattle.reading.proofs.Meaning.{LeafInTables}
use Rattle.best_first.specs.Branching.{Branching}
use Rattle.best_first.proofs.Branching.{branching}
use Rattle.best_first.proofs.Alike.{AlikeKind, both_leaves, same_inner, Alike, alike_none, alike_more, branching_alike}
use Rattle.leaf_order.specs.Waits.{Walkable}
use Rattle.search.specs.Searched.{Ready}

-- by its kind field, a node is a leaf or an inner one whatever the links are
kind_alike : (links : List ℕ) (count : ℕ) (r : List ℤ) (v : ℕ) → AlikeKind (kind_in [] 0 r v) (kind_in links count r v)
unfolding kind_in
kind_alike links count r zero = both_leaves
kind_alike links count r (suc zero) = same_inner
kind_alike links count r (suc (suc zero)) = same_inner
kind_alike links count r (suc (suc (suc v))) = both_leaves

-- the tree of the records alone differs only in what its leaves hold
pub shape_alike : (t : Tables) → Alike (shape_in t.nodes (node_count t)) (tree_in t)
unfolding shape_in tree_in node_in
shape_alike t = by (counting (node_count t) 0)
  where
    by : (l : List ℕ)
        → Alike (map (λ j. node_in [] 0 (record_of t.nodes j)) l) (map (λ j. node_in t.links (trace_count t) (record_of t.nodes j)) l)
    by [] = alike_none
    by (j ∷ l) =
        alike_more refl (kind_alike t.links (trace_count t) (record_of t.nodes j) (small_at (record_of t.nodes j) kind_place)) (by l)

-- no more leaves than nodes
pub leaves_most : (tree : Tree) → length (leaves tree) ≤ length tree
unfolding leaves
leaves_most tree = omega (arith, those_lengths (λ (number : ℕ). is_leaf_kind (node_at tree number).kind) (counting (length tree) 0), counting_length (length tree) 0)

module _ (t : Tables) (query : Trace) (trail : ℕ) (r : Ready t query trail) where
  rules : Formed sample_limit (measures_of t) (trace_count t) (tree_in t)
  rules = tree_formed t r.formed

  in_range_lem : InRange (measures_of t)
  in_range_lem = measures_fit t r.formed

  pub length_fits : length query ≤ 256
  length_fits = omega (arith, r.same_length, in_range_lem.n_high)

  pub capacity_fits : (measures_of t).capacity ≤ 4096
  capacity_fits = in_range_lem.capacity_high

  -- "2c − 1 node records" and as many places of search work
  pub nodes_needed : node_count t ≤ work_needed (measures_of t)
  unfolding work_needed
  nodes_needed =
      omega (arith, tree_size t, nodes_at_most sample_limit (measures_of t) (trace_count t) (tree_in t) (well_formed_lem rules), rules.room)

  some_node : 0 < length (tree_in t)
  some_node = by (dec_le 1 (length (tree_in t)))
    where
      by : Dec (1 ≤ length (tree_in t)) → 0 < length (tree_in t)
      by (yes h) = h
      by (no f) = absurd (omega (arith, f, r.some_trace, rules.shape.no_trace (omega (arith, f))))

  branches : Branching (tree_in t)
  branches = branching rules some_node

  record_room : (j : ℕ) → j < node_count t → j * record_places + record_places ≤ length t.nodes
  unfolding records_needed work_needed
  record_room j h =
      let room : suc j * record_places ≤ records_needed (measures_of t) * record_places =
      mul-le-mul_right record_places (omega (arith, h, nodes_needed)) in
      omega (arith, room, r.long.nodes_long)

  -- the records may be gone through
  pub walkable : Walkable t.nodes (node_count t) query
  walkable = record {
    branching = branching_alike (shape_alike t) branches;
    record_room = record_room;
    named = kind_named t r.formed;
    bounded = λ j h. subst (Bounded (record_of t.nodes j)) (sym r.same_length) (bounded_at t rules j h (record_room j h));
  }

  pub leaves_few : length (leaves (tree_in t)) ≤ 8192
  leaves_few = omega (arith, leaves_most (tree_in t), branches.few)

  -- a leaf, and its list
  module _ (j : ℕ) (h : j < node_count t) (e : small_at (record_of t.nodes j) kind_place ≡ 0) where
    abbrev head : ℕ
    head = small_at (record_of t.nodes j) first_place

    head_first : In head (numbers_of t.links (trace_count t) head)
    unfolding numbers_from
    head_first = first

    stored : Stored t.samples t.links (measures_of t).n (trace_count t) head
    unfolding samples_needed links_needed
    stored = record {
      wide = in_range_lem.n_low;
      narrow = in_range_lem.n_high;
      few = omega (arith, rules.room, in_range_lem.capacity_high);
      samples_room = omega (arith, r.long.samples_long, mul-le-mul_right (measures_of t).n rules.room);
      links_room = omega (arith, r.long.links_long, rules.room);
      rising = tables_rise t r.formed;
      inside = rules.shape.numbers head j (in_is (subst (In head) (sym (tree_numbers t j h e)) head_first));
    }

    pub leaf_at : LeafInTables t j
    leaf_at = record { inside = h; is_leaf = e; stored = stored }
