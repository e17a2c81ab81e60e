-- Two trees that differ only in what their leaves hold: the same bounds, the same leaves, the same order of reading.
use Prim.Native.Nat.{ℕ, zero, suc, max}
use mathlib.Core.Path.{◌≡◌, refl, sym, ◌∙◌, ap, subst}
use mathlib.Core.Option.{Option, none, some}
use mathlib.Core.List.{List, [], ◌∷◌, map}
use native.Mathlib.Omega.{arith}
use lib.ListN.{length}
use lib.Dec.{T}
use Rattle.integer.specs.Words.{those, counting}
use Rattle.integer.proofs.Lists.{those_agree, map_agree}
use Rattle.integer.specs.Sorting.{sorted_by}
use Rattle.dstree.specs.Measures.{Trace}
use Rattle.dstree.specs.Node.{Test, Kind, leaf, inner, Node, Tree, node_at}
use Rattle.dstree.specs.Matching.{own_bound, has_child, parent_from, bound_from, bound, LeafBound, is_leaf_kind, leaves, before, reading_order}
use Rattle.dstree.proofs.Formed.{Parent}
use Rattle.best_first.specs.Branching.{Branching}

pub data AlikeKind : Kind → Kind → Type 0 where
  both_leaves : {ns ms : List ℕ} → AlikeKind (leaf ns) (leaf ms)
  same_inner : {test : Test} {l r : ℕ} → AlikeKind (inner test l r) (inner test l r)

pub data Alike : Tree → Tree → Type 0 where
  alike_none : Alike [] []
  alike_more : {a b : Node} {t u : Tree} → a.segments ≡ b.segments → AlikeKind a.kind b.kind → Alike t u → Alike (a ∷ t) (b ∷ u)

has_alike : (c : ℕ) {a b : Kind} → AlikeKind a b → has_child c a ≡ has_child c b
unfolding has_child
has_alike c both_leaves = refl
has_alike c same_inner = refl

leaf_alike : {a b : Kind} → AlikeKind a b → is_leaf_kind a ≡ is_leaf_kind b
unfolding is_leaf_kind
leaf_alike both_leaves = refl
leaf_alike same_inner = refl

inner_alike : {a b : Kind} {test : Test} {l r : ℕ} → AlikeKind a b → b ≡ inner test l r → a ≡ inner test l r
inner_alike both_leaves e = let z : ◌≡◌ {A = ℕ} 0 1 = cc in absurd (omega arith)
inner_alike same_inner e = e

alike_length : {t u : Tree} → Alike t u → length t ≡ length u
alike_length alike_none = refl
alike_length (alike_more s k h) = ap suc (alike_length h)

alike_kind : {t u : Tree} → Alike t u → (k : ℕ) → AlikeKind (node_at t k).kind (node_at u k).kind
alike_kind alike_none k = both_leaves
alike_kind (alike_more s e h) zero = e
alike_kind (alike_more s e h) (suc k) = alike_kind h k

alike_segments : {t u : Tree} → Alike t u → (k : ℕ) → (node_at t k).segments ≡ (node_at u k).segments
alike_segments alike_none k = refl
alike_segments (alike_more s e h) zero = s
alike_segments (alike_more s e h) (suc k) = alike_segments h k

parent_alike : {t u : Tree} → Alike t u → (number child : ℕ) → parent_from number t child ≡ parent_from number u child
unfolding parent_from
parent_alike alike_none number child = refl
parent_alike (alike_more s e h) number child = rw (has_alike child e, parent_alike h (suc number) child)

module _ {t u : Tree} (h : Alike t u) where
  from_alike : (fuel : ℕ) (query : Trace) (number : ℕ) → bound_from fuel t query number ≡ bound_from fuel u query number
  unfolding bound_from own_bound
  from_alike zero query number = refl
  from_alike (suc fuel) query number = rw (alike_segments h number, parent_alike h 0 number) (by (parent_from 0 u number) (from_alike fuel query))
    where
      by : (o : Option ℕ) → ((k : ℕ) → bound_from fuel t query k ≡ bound_from fuel u query k)
          → max (own_bound query (node_at u number)) (elim o [ none ↦ 0 | some parent ↦ bound_from fuel t query parent ])
          ≡ max (own_bound query (node_at u number)) (elim o [ none ↦ 0 | some parent ↦ bound_from fuel u query parent ])
      by none ih = refl
      by (some p) ih = rw (ih p)

  bound_alike : (query : Trace) (number : ℕ) → bound t query number ≡ bound u query number
  bound_alike query number = from_alike (length t) query number ∙ ap (λ (k : ℕ). bound_from k u query number) (alike_length h)

  pub leaves_alike : leaves t ≡ leaves u
  unfolding leaves
  leaves_alike =
      ap (λ (k : ℕ). those (λ number. is_leaf_kind (node_at t number).kind) (counting k 0)) (alike_length h)
      ∙ those_agree (λ number. is_leaf_kind (node_at t number).kind) (λ number. is_leaf_kind (node_at u number).kind) (counting (length u) 0) (λ k i. leaf_alike (alike_kind h k))

  pub order_alike : (query : Trace) → reading_order t query ≡ reading_order u query
  unfolding reading_order
  order_alike query =
      let at : (number : ℕ) → LeafBound = λ number. record { number = number; bound = bound t query number } in
      let to : (number : ℕ) → LeafBound = λ number. record { number = number; bound = bound u query number } in
      ap (sorted_by before) (ap (map at) leaves_alike ∙ map_agree at to (leaves u) (λ k i. ap (λ (b : ℕ). record { number = k; bound = b }) (bound_alike query k)))

  pub branching_alike : Branching u → Branching t
  branching_alike b = record {
    some_node = rw (alike_length h) b.some_node;
    few = rw (alike_length h) b.few;
    children = record {
      child = λ p c g. rw (alike_length h) (b.children.child p c (to p c g));
      parented = λ k low high. parent k (b.children.parented k low (rw (alike_length h) at high));
      one_parent = λ p q c f g. b.children.one_parent p q c (to p c f) (to q c g);
      children_differ = λ p test l r e. b.children.children_differ p test l r (inner_alike (swap (alike_kind h p)) e);
    };
  }
    where
      to : (p c : ℕ) → T (has_child c (node_at t p).kind) → T (has_child c (node_at u p).kind)
      to p c g = subst T (has_alike c (alike_kind h p)) g

      parent : (k : ℕ) → Parent u k → Parent t k
      parent k p = record { parent = p.parent; has = subst T (sym (has_alike k (alike_kind h p.parent))) p.has }

      swap : {a c : Kind} → AlikeKind a c → AlikeKind c a
      swap both_leaves = both_leaves
      swap same_inner = same_inner
