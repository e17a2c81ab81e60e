-- Tables that pass the test for well-formed tables, and are long enough, stand for the tree that they are read as.
use Prim.Native.Nat.{ℕ, ◌*◌, ◌-◌, ◌<◌}
use mathlib.Core.Path.{◌≡◌, refl, sym, subst}
use native.Mathlib.Omega.{arith}
use lib.ListN.{length}
use lib.Dec.{T}
use Rattle.integer.proofs.Lists.{In, in_is, Up}
use Rattle.dstree.specs.Measures.{sample_limit, records_needed, links_needed}
use Rattle.dstree.specs.Node.{Kind, Node, node_at}
use Rattle.dstree.specs.Matching.{numbers_in}
use Rattle.dstree.proofs.Formed.{Formed, numbers_up}
use Rattle.dstree.proofs.Nodes.{nodes_most}
use Rattle.tables.specs.Layout.{kind_place}
use Rattle.tables.specs.Tables.{Tables, lent_of, measures_of, trace_count, node_count, record_of}
use Rattle.tables.specs.View.{small_at, kind_in, node_in, tree_in, well_formed}
use Rattle.tables.proofs.Frame.{record_length}
use Rattle.tables.specs.Judge.{InRange, Room}
pub use Rattle.tables.specs.Holds.{Long}
use Rattle.tables.proofs.Views.{tree_size, tree_node, tree_kind, tree_formed, measures_fit, kind_named}
use Rattle.insertion_memory.specs.Memory.{tree_tables_in}
use Rattle.insertion_memory.proofs.Placing.{record_inside}
use Rattle.insertion_memory.specs.Represents.{Space}
use Rattle.insertion_memory.proofs.Represents.{kind_means, ReadsAs, Represents}

-- tables are long enough by what a call finds that refuses short ones
pub long_of : (t : Tables) → Room (lent_of t) (measures_of t) → Long t
long_of t room = room.long

module _ (t : Tables) (w : T (well_formed t)) where
  pub facts : Formed sample_limit (measures_of t) (trace_count t) (tree_in t)
  facts = tree_formed t w

  pub range : InRange (measures_of t)
  range = measures_fit t w

  pub node_count_lem : node_count t ≡ length (tree_in t)
  node_count_lem = sym (tree_size t)

  module _ (long : Long t) where
    pub space : Space (measures_of t).n (measures_of t).capacity t.nodes t.links
    unfolding records_needed links_needed
    space = record { wide = range.n_low; narrow = range.n_high; small = range.capacity_high; nodes_room = long.nodes_long; links_room = long.links_long }

    reads : (j : ℕ) → j < length (tree_in t) → ReadsAs t.links (record_of t.nodes j) (node_at (tree_in t) j)
    unfolding node_in
    reads j h =
        let inside : j < node_count t = omega (arith, node_count_lem) in
        let v : ℕ = small_at (record_of t.nodes j) kind_place in
        let kind : (node_at (tree_in t) j).kind ≡ kind_in t.links (trace_count t) (record_of t.nodes j) v = tree_kind t j inside in
        subst (λ (a : Node). ReadsAs t.links (record_of t.nodes j) a) (sym (tree_node t j inside)) (record {
          size = record_length t.nodes j (record_inside (2 * (measures_of t).capacity - 1) j t.nodes space.nodes_room (omega (arith, h, nodes_most facts.shape, facts.room)));
          segments = refl;
          kind = kind_means t.links (record_of t.nodes j) (trace_count t) v refl (kind_named t w j inside) (subst (λ (a : Kind). Up 0 (numbers_in a)) kind (numbers_up facts.shape j))
              (λ s i. facts.shape.numbers s j (in_is (subst (λ (a : Kind). In s (numbers_in a)) (sym kind) i)));
        })

    pub tables_stand : Represents (measures_of t).n (measures_of t).capacity t.nodes t.links (trace_count t)
        (tree_tables_in t) (tree_in t)
    tables_stand = record {
      few = facts.room;
      count = node_count_lem;
      reads = reads;
      shape = facts.shape;
      nodes_size = refl;
      nodes_behind = refl;
      links_size = refl;
      links_behind = refl;
    }
