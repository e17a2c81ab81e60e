-- Widening the records of some nodes, one after another, is widening the nodes.
use Prim.Native.Nat.{ℕ, ◌*◌, ◌-◌, ◌≤◌, ◌<◌}
use mathlib.Core.Path.{sym, ◌∙◌, ap, subst}
use mathlib.Core.List.{List, [], ◌∷◌}
use native.Mathlib.Omega.{arith}
use lib.ListN.{length, length-set}
use lib.IntN.{ℤ}
use Rattle.integer.proofs.Lists.{In, first, later, set_cases}
use Rattle.dstree.specs.Measures.{Trace}
use Rattle.dstree.specs.Node.{leaf, Node, node, Tree, node_at, change_at}
use Rattle.dstree.specs.Adding.{widen, widen_all}
use Rattle.tables.specs.Tables.{record_of}
use Rattle.insertion_memory.specs.Records.{widen_record}
use Rattle.insertion_memory.specs.Memory.{TreeTables, tree_tables, on_record, widened_on}
use Rattle.dstree.proofs.Nodes.{nodes_most}
use Rattle.dstree.proofs.Joins.{widen_shape}
use Rattle.insertion_memory.proofs.Placing.{RecordPlaced, placed}
use Rattle.insertion_memory.specs.Represents.{Space}
use Rattle.insertion_memory.proofs.Represents.{ReadsAs, reads_widen, Represents}

module _ {n c : ℕ} {nodes : List ℤ} {links : List ℕ} (space : Space n c nodes links) (x : Trace) where
  pub widen_one : {k : ℕ} {h : TreeTables} {tree : Tree} (at : ℕ) → at < length tree → Represents n c nodes links k h tree
      → Represents n c nodes links k (tree_tables (on_record (widen_record x) h.nodes at) h.links h.count) (change_at tree at (widen x))
  unfolding widen_all
  widen_one {k} {h} {tree} at inside s =
      let b : ℕ = 2 * c - 1 in
      let most : length tree ≤ 2 * k - 1 = nodes_most s.shape in
      let wide : Node = widen x (node_at tree at) in
      let own : ReadsAs h.links (widen_record x (record_of h.nodes at)) wide = reads_widen space.narrow x (s.shape.fits at inside) (s.reads at inside) in
      let p : RecordPlaced b h.nodes (on_record (widen_record x) h.nodes at) at (widen_record x (record_of h.nodes at)) =
      placed b at h.nodes (widen_record x (record_of h.nodes at)) (omega (arith, space.nodes_room, s.nodes_size)) (omega (arith, s.few)) own.size in
      record {
        few = s.few;
        count = s.count ∙ sym (length-set tree at wide);
        reads = λ j g. let low : j < b = omega (arith, g, length-set tree at wide, s.few) in
            set_cases (node [] (leaf [])) (λ (a : Node). ReadsAs h.links (record_of (on_record (widen_record x) h.nodes at) j) a) tree at wide j
            (λ e q. subst (λ (r : List ℤ). ReadsAs h.links r wide) (sym (ap (λ (i : ℕ). record_of (on_record (widen_record x) h.nodes at) i) e ∙ p.here)) own)
            (λ f q. subst (λ (r : List ℤ). ReadsAs h.links r (node_at tree j)) (sym (p.other j f low)) (s.reads j q))
            (λ q. absurd (omega (arith, g, length-set tree at wide)));
        shape = widen_shape x (at ∷ []) s.shape;
        nodes_size = p.size ∙ s.nodes_size;
        nodes_behind = p.behind ∙ s.nodes_behind;
        links_size = s.links_size;
        links_behind = s.links_behind;
      }

  pub widen_represents : {k : ℕ} (met : List ℕ) {h : TreeTables} {tree : Tree} → ((j : ℕ) → In j met → j < length tree) → Represents n c nodes links k h tree
      → Represents n c nodes links k (tree_tables (widened_on x h.nodes met) h.links h.count) (widen_all x met tree)
  unfolding widen_all
  widen_represents [] inside s = s
  widen_represents {k} (at ∷ met) {h} {tree} inside s =
      widen_represents met (λ j i. let g : j < length tree = inside j (later i) in omega (arith, length-set tree at (widen x (node_at tree at)))) (widen_one at (inside at first) s)
