-- Node after node is laid: a leaf's numbers are written, an inner node's children get their places. When all are, every node's numbers
-- stand at its place.
use mathlib.Core.Path.{◌≡◌, refl, sym, ap, subst, ◌∙◌}
use mathlib.Core.Logic.{◌⊎◌, inl, inr}
use mathlib.Core.List.{List, ◌++◌}
use Prim.Native.Nat.{ℕ, zero, suc, ◌+◌, ◌-◌, ◌≤◌, ◌<◌}
use native.Mathlib.Omega.{arith}
use native.Mathlib.Decide.{dec_le}
use native.Mathlib.Nat.{lt_of_not-le}
use lib.ListN.{length, get_or, set, length-set, length-append}
use lib.Seq.{get_or-set_same, get_or-set_other}
use lib.Dec.{T}
use Rattle.integer.proofs.Lists.{same_or_not, strict}
use Rattle.dstree.specs.Node.{Test, Kind, leaf, inner, Tree, node_at}
use Rattle.dstree.specs.Matching.{has_child, is_leaf_kind}
use Rattle.dstree.specs.Formed.{Shape, Parent}
use Rattle.dstree.specs.Checking.{traces_below}
use Rattle.dstree.proofs.Formed.{child_node}
use Rattle.dstree.proofs.Change.{has_inner, has_left, has_right}
use Rattle.dstree.proofs.TracesBelow.{some_below, below_of_inner}
use Rattle.dstree.proofs.BelowOnce.{few_below}
use Rattle.checking.specs.Laid.{SizesLaid, PutFrom, StartsAt, LaidTo, LaidOut}
use Rattle.checking.proofs.Starting.{root_starts, starts_inside, left_starts, right_starts, put_there, still_there, from_start_is}

module _ {n count : ℕ} {tree : Tree} (s : Shape n count tree) where
  -- ---- no node yet

  pub laid_none : (starts order : List ℕ) → length starts ≡ 8192 → length order ≡ 4096 → LaidTo tree 0 (set starts 0 0) order
  laid_none starts order places room = record {
    starts_places = length-set starts 0 0 ∙ places;
    order_places = room;
    started = λ j h none. root j h none;
    placed = λ p h. absurd (omega arith);
    filled = λ j h. absurd (omega arith);
  }
    where
      root : (j : ℕ) → j < length tree → ((p : ℕ) → T (has_child j (node_at tree p).kind) → p < 0) → StartsAt tree j
          (get_or (set starts 0 0) j 0)
      root zero h none = rw (get_or-set_same starts 0 0 0 (omega arith)) (root_starts tree)
      root (suc j) h none = let p : Parent tree (suc j) = s.children.parented (suc j) (omega arith) h in absurd
          (omega (arith, none p.parent p.has))

  -- ---- one node more

  module _ {j : ℕ} (inside : j < length tree) {starts order : List ℕ} (old : LaidTo tree j starts order) where
    -- it has its place
    pub here : StartsAt tree j (get_or starts j 0)
    here = old.started j inside (λ p h. (s.children.child p j h).0)

    -- a leaf
    pub laid_leaf : {ns : List ℕ} → (node_at tree j).kind ≡ leaf ns → {after : List ℕ} → PutFrom order after (get_or starts j 0)
        (traces_below tree j)
        → LaidTo tree (j + 1) starts after
    unfolding has_child
    laid_leaf {ns} e {after} put = record {
      starts_places = old.starts_places;
      order_places = put.size ∙ old.order_places;
      started = λ i h parents. old.started i h (λ p g. strict (omega (arith, parents p g)) (λ q. no_child i p g q));
      placed = λ p h test l r q. old.placed p (strict (omega arith) (λ z. no_inner p test l r q z)) test l r q;
      filled = λ i h g is x k. by i h g is x k (same_or_not i j);
    }
      where
        no_child : (i p : ℕ) → T (has_child i (node_at tree p).kind) → p ≡ j → ⊥
        no_child i p g q = subst (λ (a : Kind). T (has_child i a)) (ap (λ (k : ℕ). (node_at tree k).kind) q ∙ e) g

        no_inner : (p : ℕ) (test : Test) (l r : ℕ) → (node_at tree p).kind ≡ inner test l r → p ≡ j → ⊥
        no_inner p test l r q z = no_child l p (rw q (has_left test l r)) z

        by : (i : ℕ) → i < j + 1 → i < length tree → T (is_leaf_kind (node_at tree i).kind) → (x : ℕ) → x < length (traces_below tree i) → Dec
            (i ≡ j)
            → get_or after (get_or starts i 0 + x) 0 ≡ get_or (traces_below tree 0) (get_or starts i 0 + x) 0
        by i h g is x k (yes q) =
            subst (λ (a : ℕ). get_or after (get_or starts a 0 + x) 0 ≡ get_or (traces_below tree 0) (get_or starts a 0 + x) 0) (sym q)
            (put_there here put x (subst (λ (a : ℕ). x < length (traces_below tree a)) q k))
        by i h g is x k (no f) = still_there here put (get_or starts i 0 + x) (old.filled i (strict (omega arith) f) g is x k)

    -- an inner node
    module _ {test : Test} {l r : ℕ} (e : (node_at tree j).kind ≡ inner test l r) where
      abbrev start : ℕ
      start = get_or starts j 0

      abbrev second : ℕ
      second = start + length (traces_below tree l)

      abbrev after : List ℕ
      after = set (set starts l start) r second

      has_l : T (has_child l (node_at tree j).kind)
      has_l = rw e (has_left test l r)

      has_r : T (has_child r (node_at tree j).kind)
      has_r = rw e (has_right test l r)

      differ : r ≡ l → ⊥
      differ q = s.children.children_differ j test l r e (sym q)

      -- the places of both children, and of others
      module _ (room_l : l < length starts) (room_r : r < length starts) where
        at_l : get_or after l 0 ≡ start
        at_l = get_or-set_other (set starts l start) r l second 0 (λ q. differ (sym q)) ∙ get_or-set_same starts l start 0 room_l

        at_r : get_or after r 0 ≡ second
        at_r = get_or-set_same (set starts l start) r second 0 (rw (length-set starts l start) room_r)

        at_other : (i : ℕ) → (i ≡ l → ⊥) → (i ≡ r → ⊥) → get_or after i 0 ≡ get_or starts i 0
        at_other i f g = get_or-set_other (set starts l start) r i second 0 g ∙ get_or-set_other starts l i start 0 f

        low : (i : ℕ) → i ≤ j → get_or after i 0 ≡ get_or starts i 0
        low i h = at_other i (λ q. omega (arith, s.children.child j l has_l)) (λ q. omega (arith, s.children.child j r has_r))

        both : traces_below tree j ≡ traces_below tree l ++ traces_below tree r
        both = below_of_inner s inside e

        pub laid_inner : LaidTo tree (j + 1) (set (set starts l (get_or starts j 0)) r
            (get_or starts j 0 + length (traces_below tree l))) order
        unfolding is_leaf_kind
        laid_inner = record {
          starts_places = length-set (set starts l start) r second ∙ (length-set starts l start ∙ old.starts_places);
          order_places = old.order_places;
          started = λ i h parents. begun i h parents (same_or_not i l) (same_or_not i r);
          placed = λ p h t a b q. sides p h t a b q (same_or_not p j);
          filled = λ i h g is x k. let d : i < j = strict (omega arith) (λ q. not_leaf i is q) in
              rw (low i (omega arith)) (old.filled i d g is x k);
        }
          where
            not_leaf : (i : ℕ) → T (is_leaf_kind (node_at tree i).kind) → i ≡ j → ⊥
            not_leaf i is q = subst (λ (a : Kind). T (is_leaf_kind a)) (ap (λ (k : ℕ). (node_at tree k).kind) q ∙ e) is

            begun : (i : ℕ) → i < length tree → ((p : ℕ) → T (has_child i (node_at tree p).kind) → p < j + 1) → Dec (i ≡ l) → Dec (i ≡ r)
                → StartsAt tree i (get_or after i 0)
            begun i h parents (yes q) d = rw (q, at_l) (left_starts here l r both)
            begun i h parents (no f) (yes q) = rw (q, at_r) (right_starts here l r both)
            begun i h parents (no f) (no g) =
                rw (at_other i f g) (old.started i h (λ p k. strict (omega (arith, parents p k)) (λ z. neither p k z)))
              where
                neither : (p : ℕ) → T (has_child i (node_at tree p).kind) → p ≡ j → ⊥
                neither p k z = one (has_inner i test l r (subst (λ (a : Kind). T (has_child i a))
                    (ap (λ (x : ℕ). (node_at tree x).kind) z ∙ e) k))
                  where
                    one : (i ≡ l) ⊎ (i ≡ r) → ⊥
                    one (inl u) = f u
                    one (inr u) = g u

            sides : (p : ℕ) → p < j + 1 → (t : Test) (a b : ℕ) → (node_at tree p).kind ≡ inner t a b → Dec (p ≡ j)
                → (get_or after a 0 ≡ get_or after p 0) × (get_or after b 0 ≡ get_or after p 0 + length (traces_below tree a))
            sides p h t a b q (yes z) =
                let same : inner test l r ≡ inner t a b = sym e ∙ (ap (λ (x : ℕ). (node_at tree x).kind) (sym z) ∙ q) in
                let la : l ≡ a = cc in
                let rb : r ≡ b = cc in
                rw (sym la, sym rb, z, at_l, at_r, low j (omega arith)) (refl, refl)
            sides p h t a b q (no f) =
                let d : p < j = strict (omega arith) f in
                let o = old.placed p d t a b q in
                let not_a : (x : ℕ) → T (has_child x (node_at tree p).kind) → (c : ℕ) → T (has_child c (node_at tree j).kind) → x ≡ c → ⊥ =
                λ x u c v w. f (s.children.one_parent p j c (subst (λ (y : ℕ). T (has_child y (node_at tree p).kind)) w u) v) in
                rw (
                  at_other a (not_a a (rw q (has_left t a b)) l has_l) (not_a a (rw q (has_left t a b)) r has_r),
                  at_other b (not_a b (rw q (has_right t a b)) l has_l) (not_a b (rw q (has_right t a b)) r has_r),
                  low p (omega arith),
                ) o

  -- ---- every node

  module _ {starts order : List ℕ} (laid : LaidTo tree (length tree) starts order) where
    starts_at : (j : ℕ) → j < length tree → StartsAt tree j (get_or starts j 0)
    starts_at j h = laid.started j h (λ p g. child_node tree p j g)

    covered : (fuel j : ℕ) → length tree ≤ j + fuel → j < length tree → (x : ℕ) → x < length (traces_below tree j)
        → get_or order (get_or starts j 0 + x) 0 ≡ get_or (traces_below tree 0) (get_or starts j 0 + x) 0
    unfolding is_leaf_kind
    covered zero j h g x k = absurd (omega arith)
    covered (suc fuel) j h g x k = by (node_at tree j).kind refl (λ c p q y. covered fuel c p q y)
      where
        by : (a : Kind) → (node_at tree j).kind ≡ a
            → ((c : ℕ) → length tree ≤ c + fuel → c < length tree → (y : ℕ) → y < length (traces_below tree c)
            → get_or order (get_or starts c 0 + y) 0 ≡ get_or (traces_below tree 0) (get_or starts c 0 + y) 0)
            → get_or order (get_or starts j 0 + x) 0 ≡ get_or (traces_below tree 0) (get_or starts j 0 + x) 0
        by (leaf ns) e ih = laid.filled j g g (rw e tt) x k
        by (inner test l r) e ih = half (dec_le (length (traces_below tree l)) x)
          where
            cl : (j < l) × (l < length tree)
            cl = s.children.child j l (rw e (has_left test l r))

            cr : (j < r) × (r < length tree)
            cr = s.children.child j r (rw e (has_right test l r))

            o : (get_or starts l 0 ≡ get_or starts j 0) × (get_or starts r 0 ≡ get_or starts j 0 + length (traces_below tree l))
            o = laid.placed j g test l r e

            size : length (traces_below tree j) ≡ length (traces_below tree l) + length (traces_below tree r)
            size = ap length (below_of_inner s g e) ∙ length-append (traces_below tree l) (traces_below tree r)

            half : Dec (length (traces_below tree l) ≤ x) → get_or order (get_or starts j 0 + x) 0 ≡ get_or (traces_below tree 0)
                (get_or starts j 0 + x) 0
            half (no f) =
                subst (λ (a : ℕ). get_or order (a + x) 0 ≡ get_or (traces_below tree 0) (a + x) 0) o.0
                (ih l (omega (arith, cl.0)) cl.1 x (lt_of_not-le f))
            half (yes p) =
                let same : get_or starts r 0 + (x - length (traces_below tree l)) ≡ get_or starts j 0 + x = omega (arith, o.1) in
                subst (λ (a : ℕ). get_or order a 0 ≡ get_or (traces_below tree 0) a 0) same
                (ih r (omega (arith, cr.0)) cr.1 (x - length (traces_below tree l)) (omega (arith, size)))

    pub laid_out : {sizes : List ℕ} → SizesLaid tree sizes 0 → count ≤ 4096 → LaidOut tree sizes starts order
    laid_out {sizes} sized few = record {
      sizes_places = sized.places;
      starts_places = laid.starts_places;
      order_places = laid.order_places;
      inside = λ j h. rw (sized.sized j (omega arith) h) (room j h);
      below = λ j h. rw (sized.sized j (omega arith) h)
          (from_start_is (starts_at j h) order (omega (arith, room j h, laid.order_places)) (covered (length tree) j (omega arith) h));
    }
      where
        room : (j : ℕ) → j < length tree → get_or starts j 0 + length (traces_below tree j) ≤ 4096
        room j h = omega (arith, starts_inside (starts_at j h) (some_below s j h), few_below s 0)
