-- The first trace: nodes and links with the first leaf's record in them stand for the tree of one leaf.
use Prim.Native.Nat.{ℕ, zero, suc, ◌*◌, ◌-◌, ◌≤◌, ◌<◌}
use mathlib.Core.Path.{refl, sym, subst}
use mathlib.Core.List.{List, [], ◌∷◌}
use native.Mathlib.Omega.{arith}
use lib.ListN.{set, length-set}
use lib.Seq.{get_or-set_same, drop-set-lt}
use lib.IntN.{ℤ}
use Rattle.dstree.specs.Measures.{Trace}
use Rattle.dstree.specs.Node.{node_at, ends}
use Rattle.dstree.specs.Adding.{segments_of, new_leaf}
use Rattle.dstree.specs.Formed.{Fits}
use Rattle.dstree.proofs.Keeps.{first_tree, first_shape}
use Rattle.tables.specs.Tables.{record_of, with_record}
use Rattle.insertion_memory.specs.Records.{leaf_record}
use Rattle.insertion_memory.specs.Memory.{tree_tables}
use Rattle.tables.proofs.Linked.{Linked, l_end}
use Rattle.insertion_memory.proofs.Placing.{RecordPlaced, placed}
use Rattle.insertion_memory.specs.Represents.{Space}
use Rattle.insertion_memory.proofs.Represents.{ReadsAs, reads_leaf, Represents}

module _ (n : ℕ) (x : Trace) (wide : 1 ≤ n) where
  fits_ends : Fits n (ends (new_leaf (x ∷ []) (n ∷ []) (0 ∷ [])).segments)
  fits_ends = (first_shape n x wide).fits 0 (omega arith)

  module _ {c : ℕ} (nodes : List ℤ) (links : List ℕ) (space : Space n c nodes links) (some : 1 ≤ c) where
    abbrev new : List ℤ
    new = leaf_record (segments_of (n ∷ []) (x ∷ [])) 0

    link : Linked (set links 0 0) (0 ∷ [])
    link = l_end (get_or-set_same links 0 0 0 (omega (arith, space.links_room)))

    reads_new : ReadsAs (set links 0 0) new (new_leaf (x ∷ []) (n ∷ []) (0 ∷ []))
    unfolding new_leaf
    reads_new = reads_leaf space.narrow (segments_of (n ∷ []) (x ∷ [])) fits_ends (omega arith) link

    p : RecordPlaced (2 * c - 1) nodes (with_record nodes 0 new) 0 new
    p = placed (2 * c - 1) 0 nodes new space.nodes_room (omega arith) reads_new.size

    pub first_represents : Represents n c nodes links 1 (tree_tables (with_record nodes 0 new) (set links 0 0) 1) (first_tree n x)
    first_represents = record {
      few = some;
      count = refl;
      reads = reads;
      shape = first_shape n x wide;
      nodes_size = p.size;
      nodes_behind = p.behind;
      links_size = length-set links 0 0;
      links_behind = drop-set-lt c links 0 0 some;
    }
      where
        reads : (j : ℕ) → j < 1 → ReadsAs (set links 0 0) (record_of (with_record nodes 0 new) j) (node_at (first_tree n x) j)
        reads zero h = subst (λ (r : List ℤ). ReadsAs (set links 0 0) r (new_leaf (x ∷ []) (n ∷ []) (0 ∷ []))) (sym p.here) reads_new
        reads (suc j) h = absurd (omega arith)
