-- What the steps of adding do to a tree, node by node: children, the way down, widening, joining. Each step is told by cases on the node's
-- number.
use Rattle.std.specs.Prelude.{if◌then◌else◌}
use Prim.Native.Nat.{ℕ, zero, suc, ◌+◌, ◌-◌, ◌≤◌, ◌<◌}
use mathlib.Core.Path.{◌≡◌, refl, sym, ◌∙◌, ap, subst}
use mathlib.Core.Logic.{◌⊎◌, inl, inr}
use mathlib.Core.Bool.{Bool, true, false}
use mathlib.Core.Option.{Option, none, some}
use mathlib.Core.List.{List, [], ◌∷◌, ◌++◌}
use native.Mathlib.Omega.{arith}
use lib.ListN.{length, length-set, get_or-eq_default}
use lib.Dec.{T}
use Rattle.integer.specs.Words.{last_of}
use Rattle.integer.proofs.Lists.{In, first, later, in_nil, in_cons, last_in, set_cases}
use Rattle.dstree.specs.Measures.{Trace}
use Rattle.dstree.specs.Node.{Test, Kind, leaf, inner, Node, node, Tree, node_at, change_at, sends_left}
use Rattle.dstree.specs.Adding.{next_node, way_from, way, widen, widen_all, join_kind, join}
use Rattle.dstree.specs.Matching.{has_child}
use Rattle.dstree.specs.WellFormed.{children_of}
use Rattle.dstree.proofs.Formed.{empty_leaf, is_node, child_in, in_child}
use Rattle.dstree.proofs.Ranges.{Covered, covered_none, widen_kept, widen_new}

-- a leaf that holds a trace is a node of the tree
pub leaf_in : (tree : Tree) (at : ℕ) (numbers : List ℕ) → (node_at tree at).kind ≡ leaf numbers → 0 < length numbers → at < length tree
leaf_in tree at numbers e h = is_node (λ a. a.kind ≡ leaf numbers) tree at (λ q. let r : [] ≡ numbers = cc in omega (arith, ap length r)) e

-- ---- children

pub has_inner : (c : ℕ) (test : Test) (l r : ℕ) → T (has_child c (inner test l r)) → (c ≡ l) ⊎ (c ≡ r)
unfolding children_of
has_inner c test l r t = by (in_cons (child_in c (inner test l r) t))
  where
    by : (c ≡ l) ⊎ In c (r ∷ []) → (c ≡ l) ⊎ (c ≡ r)
    by (inl e) = inl e
    by (inr i) = second (in_cons i)
      where
        second : (c ≡ r) ⊎ In c [] → (c ≡ l) ⊎ (c ≡ r)
        second (inl e) = inr e
        second (inr i) = absurd (in_nil i)

pub has_left : (test : Test) (l r : ℕ) → T (has_child l (inner test l r))
unfolding children_of
has_left test l r = in_child l (inner test l r) first

pub has_right : (test : Test) (l r : ℕ) → T (has_child r (inner test l r))
unfolding children_of
has_right test l r = in_child r (inner test l r) (later first)

-- ---- the way down

-- the child that a trace goes to is a child
pub next_child : (x : Trace) (c : ℕ) (k : Kind) → next_node k x ≡ some c → T (has_child c k)
unfolding next_node
next_child x c (leaf numbers) e = let z : ◌≡◌ {A = ℕ} 0 1 = cc in absurd (omega arith)
next_child x c (inner test l r) e = by (sends_left test x) e
  where
    by : (b : Bool) → some (if b then l else r) ≡ some c → T (has_child c (inner test l r))
    by true p = let q : l ≡ c = cc in subst (λ (j : ℕ). T (has_child j (inner test l r))) q (has_left test l r)
    by false p = let q : r ≡ c = cc in subst (λ (j : ℕ). T (has_child j (inner test l r))) q (has_right test l r)

-- the trace x goes to the node c from a node of a list
pub record ParentIn (tree : Tree) (x : Trace) (c : ℕ) (l : List ℕ) : Type 0 where
  pub parent : ℕ
  pub met : In parent l
  pub next : next_node (node_at tree parent).kind x ≡ some c

module _ (tree : Tree) (x : Trace) where
  -- it ends at a leaf, and goes on at an inner node
  pub way_stops : (fuel at : ℕ) → 0 < fuel → next_node (node_at tree at).kind x ≡ none → way_from fuel tree x at ≡ at ∷ []
  unfolding way_from
  way_stops zero at h e = absurd (omega arith)
  way_stops (suc fuel) at h e = rw e

  pub way_goes : (fuel at c : ℕ) → 0 < fuel → next_node (node_at tree at).kind x ≡ some c
      → way_from fuel tree x at ≡ at ∷ way_from (fuel - 1) tree x c
  unfolding way_from
  way_goes zero at c h e = absurd (omega arith)
  way_goes (suc fuel) at c h e = rw e (ap (λ (j : ℕ). at ∷ way_from j tree x c) (let z : fuel ≡ suc fuel - 1 = omega arith in z))

  pub last_behind : (fuel at c : ℕ) → 0 < fuel → last_of (at ∷ way_from fuel tree x c) ≡ last_of (way_from fuel tree x c)
  unfolding way_from
  last_behind zero at c h = absurd (omega arith)
  last_behind (suc fuel) at c h = refl

-- trees in which a trace goes on alike at every node have the same way
pub way_alike : (a b : Tree) (x : Trace) → ((j : ℕ) → next_node (node_at a j).kind x ≡ next_node (node_at b j).kind x)
    → (fuel at : ℕ) → way_from fuel a x at ≡ way_from fuel b x at
unfolding way_from
way_alike a b x h zero at = refl
way_alike a b x h (suc fuel) at = rw (h at) (by (next_node (node_at b at).kind x) (λ (c : ℕ). way_alike a b x h fuel c))
  where
    by : (o : Option ℕ) → ((c : ℕ) → way_from fuel a x c ≡ way_from fuel b x c)
        → at ∷ elim o [ none ↦ [] | some child ↦ way_from fuel a x child ] ≡ at ∷ elim o [ none ↦ [] | some child ↦ way_from fuel b x child ]
    by none ih = refl
    by (some c) ih = ap (λ (l : List ℕ). at ∷ l) (ih c)

-- to each node met on the way but the first the trace goes from a node met on the way
pub way_closed : (fuel : ℕ) (tree : Tree) (x : Trace) (at : ℕ) {c : ℕ} → In c (way_from fuel tree x at) → (c ≡ at) ⊎ ParentIn tree x c (way_from fuel tree x at)
unfolding way_from
way_closed (suc fuel) tree x at {c} i = by (next_node (node_at tree at).kind x) refl (in_cons i) (λ (child : ℕ) (j : In c (way_from fuel tree x child)). way_closed fuel tree x child j)
  where
    by : (o : Option ℕ) → next_node (node_at tree at).kind x ≡ o
        → (c ≡ at) ⊎ In c (elim o [ none ↦ [] | some child ↦ way_from fuel tree x child ]) →
        ((child : ℕ) → In c (way_from fuel tree x child) → (c ≡ child) ⊎ ParentIn tree x c (way_from fuel tree x child))
        → (c ≡ at) ⊎ ParentIn tree x c (at ∷ elim o [ none ↦ [] | some child ↦ way_from fuel tree x child ])
    by o e (inl p) ih = inl p
    by none e (inr j) ih = absurd (in_nil j)
    by (some child) e (inr j) ih = from (ih child j)
      where
        from : (c ≡ child) ⊎ ParentIn tree x c (way_from fuel tree x child) → (c ≡ at) ⊎ ParentIn tree x c (at ∷ way_from fuel tree x child)
        from (inl p) = inr (record { parent = at; met = first; next = rw p e })
        from (inr q) = inr (record { parent = q.parent; met = later q.met; next = q.next })
way_closed zero tree x at i = elim i [ ]

pub way_last : (fuel : ℕ) (tree : Tree) (x : Trace) (at : ℕ) → In (last_of (way_from (suc fuel) tree x at)) (way_from (suc fuel) tree x at)
unfolding way_from
way_last fuel tree x at = last_in at (elim (next_node (node_at tree at).kind x) [ none ↦ [] | some child ↦ way_from fuel tree x child ])

-- a leaf of the tree
pub record LeafAt (tree : Tree) (k : ℕ) : Type 0 where
  pub numbers : List ℕ
  pub is : (node_at tree k).kind ≡ leaf numbers
  pub inside : k < length tree

-- the way ends at a leaf, and has what its end has if each step keeps it: Q of a node leads to Q of the node that the trace goes to
pub way_ends : (tree : Tree) (x : Trace) (Q : ℕ → Type 0)
    → ((p c : ℕ) → T (has_child c (node_at tree p).kind) → (p < c) × (c < length tree)) → ((p c : ℕ) → next_node (node_at tree p).kind x ≡ some c → Q p → Q c)
    → (fuel at : ℕ) → at < length tree → length tree ≤ at + fuel → Q at → LeafAt tree (last_of (way_from fuel tree x at)) × Q (last_of (way_from fuel tree x at))
unfolding way_from next_node
way_ends tree x Q child step zero at h f q = absurd (omega arith)
way_ends tree x Q child step (suc fuel) at h f q = by (node_at tree at).kind refl (λ (c : ℕ) (g : c < length tree) (f : length tree ≤ c + fuel) (q : Q c). way_ends tree x Q child step fuel c g f q)
  where
    End : List ℕ → Type 0
    End way = LeafAt tree (last_of way) × Q (last_of way)

    on : (fuel c : ℕ) → length tree ≤ c + fuel → c < length tree → End (way_from fuel tree x c) → End (at ∷ way_from fuel tree x c)
    on zero c f g ih = absurd (omega arith)
    on (suc fuel) c f g ih = ih

    by : (a : Kind) → (node_at tree at).kind ≡ a → ((c : ℕ) → c < length tree → length tree ≤ c + fuel → Q c → End (way_from fuel tree x c))
        → End (at ∷ elim (next_node a x) [ none ↦ [] | some child ↦ way_from fuel tree x child ])
    by (leaf numbers) e ih = (record { numbers = numbers; is = e; inside = h }, q)
    by (inner test l r) e ih =
        let c : ℕ = if sends_left test x then l else r in
        let k : (at < c) × (c < length tree) = child at c (rw e (next_child x c (inner test l r) refl)) in
        on fuel c (omega (arith, k.0)) k.1 (ih c k.1 (omega (arith, k.0)) (step at c (rw e refl) q))

module _ (tree : Tree) (x : Trace) (child : (p c : ℕ) → T (has_child c (node_at tree p).kind) → (p < c) × (c < length tree)) (some_node : 0 < length tree) where
  -- the way meets nodes of the tree only ..
  pub way_inside : (j : ℕ) → In j (way tree x) → j < length tree
  way_inside j i = by (way_closed (length tree) tree x 0 i)
    where
      by : (j ≡ 0) ⊎ ParentIn tree x j (way tree x) → j < length tree
      by (inl e) = omega arith
      by (inr q) = (child q.parent j (next_child x j (node_at tree q.parent).kind q.next)).1

  -- .. and ends at a leaf
  pub way_leaf : LeafAt tree (last_of (way tree x))
  way_leaf = (way_ends tree x (λ k. Unit) child (λ p c e q. tt) (length tree) 0 some_node (omega arith) tt).0

-- ---- widening

pub widen_length : (x : Trace) (met : List ℕ) (tree : Tree) → length (widen_all x met tree) ≡ length tree
unfolding widen_all
widen_length x [] tree = refl
widen_length x (at ∷ rest) tree = rw (widen_length x rest) (length-set tree at _)

pub widen_kind : (x : Trace) (met : List ℕ) (tree : Tree) (k : ℕ) → (node_at (widen_all x met tree) k).kind ≡ (node_at tree k).kind
unfolding widen_all widen
widen_kind x [] tree k = refl
widen_kind x (at ∷ rest) tree k =
    widen_kind x rest (change_at tree at (widen x)) k
    ∙ set_cases empty_leaf (λ (n : Node). n.kind ≡ (node_at tree k).kind) tree at (widen x (node_at tree at)) k
    (λ e h. ap (λ (j : ℕ). (node_at tree j).kind) (sym e)) (λ f h. refl) (λ h. ap (λ (n : Node). n.kind) (sym (get_or-eq_default tree empty_leaf h)))

pub widen_keeps : (x y : Trace) (met : List ℕ) (tree : Tree) (k : ℕ) → Covered y 1 (node_at tree k).segments → Covered y 1 (node_at (widen_all x met tree) k).segments
unfolding widen_all
widen_keeps x y [] tree k w = w
widen_keeps x y (at ∷ rest) tree k w =
    widen_keeps x y rest (change_at tree at (widen x)) k
    (set_cases empty_leaf (λ (n : Node). Covered y 1 n.segments) tree at (widen x (node_at tree at)) k
    (λ e h. widen_kept x y (node_at tree at) (subst (λ (j : ℕ). Covered y 1 (node_at tree j).segments) e w)) (λ f h. w) (λ h. covered_none))

pub widen_gets : (x : Trace) {k : ℕ} {met : List ℕ} (tree : Tree) → In k met → Covered x 1 (node_at (widen_all x met tree) k).segments
unfolding widen_all
widen_gets x {k = k} tree (first {rest}) =
    widen_keeps x x rest (change_at tree k (widen x)) k
    (set_cases empty_leaf (λ (n : Node). Covered x 1 n.segments) tree k (widen x (node_at tree k)) k (λ e h. widen_new x (node_at tree k)) (λ f h. absurd (f refl)) (λ h. covered_none))
widen_gets x tree (later {b = at} i) = widen_gets x (change_at tree at (widen x)) i

-- ---- joining

module _ (number at : ℕ) (tree : Tree) where
  pub join_length : length (join number at tree) ≡ length tree
  unfolding join
  join_length = simp length-set

  -- no record is changed
  pub join_segments : (k : ℕ) → (node_at (join number at tree) k).segments ≡ (node_at tree k).segments
  unfolding join
  join_segments k =
      set_cases empty_leaf (λ (n : Node). n.segments ≡ (node_at tree k).segments) tree at
      (node (node_at tree at).segments (join_kind number (node_at tree at).kind)) k
      (λ e h. ap (λ (j : ℕ). (node_at tree j).segments) (sym e)) (λ f h. refl) (λ h. ap (λ (n : Node). n.segments) (sym (get_or-eq_default tree empty_leaf h)))

  -- the leaf has one more number, and no other node is changed
  pub join_kinds : (ns : List ℕ) → (node_at tree at).kind ≡ leaf ns → (P : Kind → Type 0) (k : ℕ)
      → (k ≡ at → P (leaf (ns ++ (number ∷ [])))) → ((k ≡ at → ⊥) → P (node_at tree k).kind) → at < length tree → P (node_at (join number at tree) k).kind
  unfolding join join_kind
  join_kinds ns is_leaf P k here other inside =
      set_cases empty_leaf (λ (n : Node). P n.kind) tree at (node (node_at tree at).segments (join_kind number (node_at tree at).kind)) k
      (λ e h. rw is_leaf (here e)) (λ f h. other f) (λ h. subst (λ (n : Node). P n.kind) (get_or-eq_default tree empty_leaf h) (other (λ e. omega arith)))

  -- an inner node is not changed, whatever the tree
  pub join_inner : (k : ℕ) (test : Test) (l r : ℕ) → (node_at tree k).kind ≡ inner test l r → (node_at (join number at tree) k).kind ≡ inner test l r
  unfolding join join_kind
  join_inner k test l r e =
      set_cases empty_leaf (λ (n : Node). n.kind ≡ inner test l r) tree at (node (node_at tree at).segments (join_kind number (node_at tree at).kind)) k
      (λ p h. rw (← p, e)) (λ f h. e) (λ h. subst (λ (n : Node). n.kind ≡ inner test l r) (get_or-eq_default tree empty_leaf h) e)
