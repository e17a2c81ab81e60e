-- A number put behind a leaf's last link joins the leaf, and no other leaf's list changes: no number is in two leaves.
use Prim.Native.Nat.{ℕ, suc, ◌<◌}
use mathlib.Core.Path.{◌≡◌, sym, ◌∙◌, ap, subst}
use mathlib.Core.List.{List, [], ◌∷◌, ◌++◌}
use native.Mathlib.Omega.{arith}
use lib.ListN.{length, get_or, set, length-set}
use lib.IntN.{ℤ}
use Rattle.integer.specs.Words.{last_of}
use Rattle.integer.proofs.Lists.{In, in_is, Up, set_cases, last_in}
use Rattle.dstree.specs.Node.{Kind, leaf, Node, node, Tree, node_at}
use Rattle.dstree.specs.Adding.{widen_all, join_kind, join}
use Rattle.dstree.specs.Matching.{numbers_in}
use Rattle.dstree.proofs.Formed.{numbers_up}
use Rattle.dstree.proofs.Joins.{join_shape}
use Rattle.tables.specs.Tables.{record_of}
use Rattle.insertion_memory.specs.Links.{joined}
use Rattle.insertion_memory.specs.Memory.{TreeTables, tree_tables}
use Rattle.insertion_memory.proofs.Following.{join_at_other, joined_linked, joined_length, joined_behind}
use Rattle.insertion_memory.specs.Represents.{Space}
use Rattle.insertion_memory.proofs.Represents.{Means, m_leaf, AllBelow, ReadsAs, reads_same, Represents}

means_join : {links : List ℕ} {r : List ℤ} {ns : List ℕ} (k : ℕ) → Means links r (leaf ns) → Up 0 ns → AllBelow k ns → k < length links → Means (joined links ns k) r (leaf (ns ++ (k ∷ [])))
means_join {links} k (m_leaf {x} {l} e q w) u low h = m_leaf e q (joined_linked links x l k h w u low)

other_link : (links : List ℕ) (ns : List ℕ) (k s : ℕ) → 0 < length ns → k < length links → (s ≡ k → ⊥) → (In s ns → ⊥) → get_or (joined links ns k) s 0 ≡ get_or links s 0
other_link links [] k s some h f g = absurd (omega arith)
other_link links (x ∷ l) k s some h f g = join_at_other links x l k h s f (λ e. g (subst (λ (t : ℕ). In t (x ∷ l)) (sym e) (last_in x l)))

pub last_low : (k : ℕ) (ns : List ℕ) → 0 < length ns → AllBelow k ns → last_of ns < k
last_low k [] some low = absurd (omega arith)
last_low k (x ∷ l) some low = low _ (last_in x l)

join_is : (k at : ℕ) (tree : Tree) (ns : List ℕ) → (node_at tree at).kind ≡ leaf ns → join k at tree ≡ set tree at (node (node_at tree at).segments (leaf (ns ++ (k ∷ []))))
unfolding join join_kind
join_is k at tree ns is = rw is

module _ {n c : ℕ} {nodes : List ℤ} {links : List ℕ} (space : Space n c nodes links) where
  pub join_represents : {k : ℕ} {h : TreeTables} {tree : Tree} (at : ℕ) (ns : List ℕ) → at < length tree → (node_at tree at).kind ≡ leaf ns → k < c → Represents n c nodes links k h tree
      → Represents n c nodes links (suc k) (tree_tables h.nodes (joined h.links ns k) h.count) (join k at tree)
  unfolding numbers_in widen_all
  join_represents {k} {h} {tree} at ns inside is less s =
      let full : k < length h.links = omega (arith, space.links_room, s.links_size) in
      let some : 0 < length ns = s.shape.full at inside ns is in
      let numbers : numbers_in (node_at tree at).kind ≡ ns = ap numbers_in is in
      let up : Up 0 ns = subst (λ (l : List ℕ). Up 0 l) numbers (numbers_up s.shape at) in
      let in_at : (t : ℕ) → In t ns → In t (numbers_in (node_at tree at).kind) = λ t i. subst (λ (l : List ℕ). In t l) (sym numbers) i in
      let low : AllBelow k ns = λ t i. s.shape.numbers t at (in_is (in_at t i)) in
      let longer : Node = node (node_at tree at).segments (leaf (ns ++ (k ∷ []))) in
      let is_set : join k at tree ≡ set tree at longer = join_is k at tree ns is in
      let own : ReadsAs (joined h.links ns k) (record_of h.nodes at) longer = record {
        size = (s.reads at inside).size;
        segments = (s.reads at inside).segments;
        kind = means_join k (subst (λ (a : Kind). Means h.links (record_of h.nodes at) a) is (s.reads at inside).kind) up low full;
      } in
      record {
        few = less;
        count = s.count ∙ sym (ap length is_set ∙ length-set tree at longer);
        reads = λ j g. subst (λ (tree' : Tree). ReadsAs (joined h.links ns k) (record_of h.nodes j) (node_at tree' j)) (sym is_set)
            (set_cases (node [] (leaf [])) (λ (a : Node). ReadsAs (joined h.links ns k) (record_of h.nodes j) a) tree at longer j
            (λ e q. subst (λ (i : ℕ). ReadsAs (joined h.links ns k) (record_of h.nodes i) longer) (sym e) own)
            (λ f q. reads_same (λ t i. other_link h.links ns k t some full (λ e. omega (arith, e, s.shape.numbers t j (in_is i)))
            (λ i'. f (s.shape.one_leaf t j at (in_is i) (in_is (in_at t i'))))) (s.reads j q))
            (λ q. absurd (omega (arith, g, ap length is_set, length-set tree at longer))));
        shape = join_shape s.shape [] [] at ns inside is;
        nodes_size = s.nodes_size;
        nodes_behind = s.nodes_behind;
        links_size = joined_length h.links ns k ∙ s.links_size;
        links_behind = joined_behind h.links ns k c less (omega (arith, last_low k ns some low)) ∙ s.links_behind;
      }
