-- The turns of the loop over the nodes: what a node has reached from what is reached above it, and what taking a leaf or an inner node
-- leaves.
use Rattle.std.specs.Prelude.{if◌then◌else◌}
use Prim.Native.Nat.{ℕ, suc, ◌+◌, ◌*◌, ◌-◌, ◌≤◌, ◌<◌, min, max}
use mathlib.Core.Path.{◌≡◌, sym, ◌∙◌, ap, ap₂, subst}
use mathlib.Core.Logic.{◌⊎◌, inl, inr}
use mathlib.Core.Bool.{Bool, ◌&&◌}
use mathlib.Core.List.{List, [], ◌∷◌}
use native.Mathlib.Omega.{arith}
use native.Mathlib.Nat.{mul-le-mul_right}
use native.Mathlib.Decide.{dec_lt}
use lib.ListN.{length, get_or, set, drop, replicate, length-set, length-drop, length-append, length-replicate, get_or-replicate, get_or-append}
use lib.Seq.{get_or-set_same, get_or-set_other, drop_at}
use lib.Dec.{T, leb, eqb}
use Rattle.integer.proofs.Lists.{In, same_or_not, in_nil, in_cons}
use Rattle.dstree.specs.Measures.{Trace, most_traces}
use Rattle.dstree.specs.Node.{Test, leaf, inner, Tree, node_at}
use Rattle.dstree.specs.Matching.{own_bound, has_child, bound, is_leaf_kind, numbers_in}
use Rattle.dstree.specs.WellFormed.{children_of}
use Rattle.dstree.specs.Formed.{Parent, Children}
use Rattle.dstree.specs.Bands.{own_upper, upper, is_edges, BandCount, is_sure, is_possible}
use Rattle.dstree.proofs.Formed.{child_in}
use Rattle.dstree.proofs.Change.{has_left, has_right}
use Rattle.dstree.proofs.Bounds.{child_bound, root_bound}
use Rattle.dstree.proofs.Upper.{child_upper, root_upper}
use Rattle.tables.specs.Tables.{filled}
use Rattle.band_counts.specs.Reached.{edges_reached, pair_of, by_bound_in, by_upper_in, reached_at, reached_above}
use Rattle.band_counts.specs.Counted.{band_at, count_at, count_with, counted_to, CountFits, CountedTo}
use Rattle.band_counts.proofs.Reached.{of_greater, of_smaller, at_most_all, edges_are, sure_is, possible_is}
use Rattle.band_counts.proofs.Counts.{at_most_many, counted_more, counted_none}

-- ---- zeros

filled_length : (n : ℕ) (l : List ℕ) → n ≤ length l → length (filled {A = ℕ} n 0 l) ≡ length l
filled_length n l h = length-append (replicate {A = ℕ} n 0) (drop n l) ∙ omega (arith, length-replicate {A = ℕ} n 0, length-drop n l)

filled_at : (n : ℕ) (l : List ℕ) (i : ℕ) → i < n → get_or (filled {A = ℕ} n 0 l) i 0 ≡ 0
filled_at n l i h =
    get_or-append (replicate {A = ℕ} n 0) (drop n l) 0 i (omega (arith, length-replicate {A = ℕ} n 0)) ∙ get_or-replicate n i 0 0 h

pub filled_rest : (n : ℕ) (l : List ℕ) → drop n (filled {A = ℕ} n 0 l) ≡ drop n l
filled_rest n l = drop_at (replicate {A = ℕ} n 0) (drop n l) n (length-replicate {A = ℕ} n 0)

-- ---- counts

pub fits_more : {to more : ℕ} {c : BandCount} → to ≤ more → CountFits to c → CountFits more c
fits_more h f =
    let g = mul-le-mul_right most_traces h in
    record { sure_small = omega (arith, f.sure_small, g); possible_small = omega (arith, f.possible_small, g) }

-- ---- two numbers in one place

bound_in : (b u : ℕ) → b ≤ 16 → by_bound_in (pair_of b u) ≡ b
bound_in b u h = omega arith

upper_in : (b u : ℕ) → b ≤ 16 → by_upper_in (pair_of b u) ≡ u
upper_in b u h = omega arith

module _ (tree : Tree) (query : Trace) (edges : List ℕ) (children : Children tree) (edged : T (is_edges edges)) where
  few : (figure : ℕ) → edges_reached edges figure ≤ 16
  few figure = omega (arith, at_most_all edges figure, (edges_are edges edged).1)

  pub bound_at : (j : ℕ) → by_bound_in (reached_at tree query edges j) ≡ edges_reached edges (bound tree query j)
  unfolding reached_at
  bound_at j = bound_in _ _ (few (bound tree query j))

  pub upper_at : (j : ℕ) → by_upper_in (reached_at tree query edges j) ≡ edges_reached edges (upper tree query j)
  unfolding reached_at
  upper_at j = upper_in _ _ (few (bound tree query j))

  -- ---- what a node has reached, by its own figures and what is reached above it

  abbrev from_above : ℕ → ℕ → ℕ
  from_above j above =
      pair_of (max (edges_reached edges (own_bound query (node_at tree j))) (by_bound_in above))
      (min (edges_reached edges (own_upper query (node_at tree j))) (by_upper_in above))

  root_reached : 0 < length tree → from_above 0 (reached_above edges) ≡ reached_at tree query edges 0
  unfolding reached_at
  root_reached some =
      let b = root_bound tree children.child children.one_parent query some in
      let u = root_upper tree children.child children.one_parent query some in
      let R : ℕ → ℕ = edges_reached edges in
      let p : max (R (own_bound query (node_at tree 0))) (by_bound_in (reached_above edges)) ≡ R (bound tree query 0) =
      omega (arith, bound_in 0 (length edges) (omega arith), ap R b) in
      let q : min (R (own_upper query (node_at tree 0))) (by_upper_in (reached_above edges)) ≡ R (upper tree query 0) =
      omega (arith, upper_in 0 (length edges) (omega arith), ap R u, at_most_all edges (own_upper query (node_at tree 0))) in
      ap₂ pair_of p q

  child_reached : (p j : ℕ) → T (has_child j (node_at tree p).kind) → from_above j (reached_at tree query edges p) ≡ reached_at tree query edges j
  unfolding reached_at
  child_reached p j h =
      let b = child_bound tree children.child children.one_parent query p j h in
      let u = child_upper tree children.child children.one_parent query p j h in
      let R : ℕ → ℕ = edges_reached edges in
      ap₂ pair_of
      (ap (max (R (own_bound query (node_at tree j)))) (bound_at p) ∙ (sym (of_greater edges _ _) ∙ ap R (sym b)))
      (ap (min (R (own_upper query (node_at tree j)))) (upper_at p) ∙ (sym (of_smaller edges _ _) ∙ ap R (sym u)))

  module _ (j : ℕ) (inside : j < length tree) (work list : List ℕ) (c : CountedTo tree query edges j work list) where
    pub node_reached : from_above j (get_or work j 0) ≡ reached_at tree query edges j
    node_reached = by (same_or_not j 0)
      where
        child : Parent tree j → from_above j (get_or work j 0) ≡ reached_at tree query edges j
        child p =
            ap (from_above j) (c.handed p.parent j (children.child p.parent j p.has).0 p.has)
            ∙ child_reached p.parent j p.has

        by : Dec (j ≡ 0) → from_above j (get_or work j 0) ≡ reached_at tree query edges j
        by (yes e) =
            let w : get_or work j 0 ≡ reached_above edges = ap (λ (i : ℕ). get_or work i 0) e ∙ c.at_first e in
            ap (from_above j) w ∙ subst (λ (i : ℕ). from_above i (reached_above edges) ≡ reached_at tree query edges i) (sym e) (root_reached (omega arith))
        by (no f) = child (children.parented j (omega (arith, f)) inside)

    -- ---- a leaf

    module _ (numbers : List ℕ) (is_leaf : (node_at tree j).kind ≡ leaf numbers) (some_few : length numbers ≤ most_traces) (list' : List ℕ)
        (size : length list' ≡ length list)
        (added : (k : ℕ) → k < length edges - 1 → count_at list' k
        ≡ count_with (by_bound_in (reached_at tree query edges j)) (by_upper_in (reached_at tree query edges j)) (length numbers) k (count_at list k)) where
      no_child : (child : ℕ) → T (has_child child (node_at tree j).kind) → ⊥
      unfolding has_child
      no_child child h = rw is_leaf at h

      counts_more : (passes : ℕ → Bool) (count : ℕ) (test : Bool) → count ≡ counted_to tree passes j → passes j ≡ test
          → count + (if test then length numbers else 0) ≡ counted_to tree passes (suc j)
      unfolding is_leaf_kind numbers_in
      counts_more passes count test e p =
          let more : counted_to tree passes (suc j) ≡ counted_to tree passes j + (if passes j then length numbers else 0) =
          rw is_leaf at (counted_more tree passes j) in
          ap₂ (λ (n : ℕ) (b : Bool). n + (if b then length numbers else 0)) e (sym p) ∙ sym more

      abbrev B : ℕ
      B = by_bound_in (reached_at tree query edges j)

      abbrev U : ℕ
      U = by_upper_in (reached_at tree query edges j)

      sure_here : (k : ℕ) → suc k < length edges → is_sure tree query (band_at edges k) j ≡ (eqb B (suc k) && eqb U (suc k))
      sure_here k h =
          sure_is edges (edges_are edges edged).2 tree query k j h
          ∙ sym (ap₂ (λ (b u : ℕ). eqb b (suc k) && eqb u (suc k)) (bound_at j) (upper_at j))

      possible_here : (k : ℕ) → suc k < length edges → is_possible tree query (band_at edges k) j ≡ (leb B (suc k) && leb (suc k) U)
      possible_here k h =
          possible_is edges (edges_are edges edged).2 tree query k j h
          ∙ sym (ap₂ (λ (b u : ℕ). leb b (suc k) && leb (suc k) u) (bound_at j) (upper_at j))

      leaf_counts : (k : ℕ) → suc k < length edges → count_at list' k ≡ record {
        sure = counted_to tree (is_sure tree query (band_at edges k)) (suc j);
        possible = counted_to tree (is_possible tree query (band_at edges k)) (suc j);
      }
      leaf_counts k h =
          added k (omega arith)
          ∙ ap₂ (λ (a b : ℕ). record { sure = a; possible = b })
          (counts_more (is_sure tree query (band_at edges k)) (count_at list k).sure (eqb B (suc k) && eqb U (suc k))
          (ap (λ (a : BandCount). a.sure) (c.counts k h)) (sure_here k h))
          (counts_more (is_possible tree query (band_at edges k)) (count_at list k).possible (leb B (suc k) && leb (suc k) U)
          (ap (λ (a : BandCount). a.possible) (c.counts k h)) (possible_here k h))

      leaf_small : (k : ℕ) → suc k < length edges → CountFits (suc j) (count_at list' k)
      leaf_small k h = subst (CountFits (suc j)) (sym (added k (omega arith))) (record {
        sure_small =
            omega (arith, (c.small k h).sure_small, at_most_many (eqb B (suc k) && eqb U (suc k)) (length numbers), some_few);
        possible_small =
            omega (arith, (c.small k h).possible_small, at_most_many (leb B (suc k) && leb (suc k) U) (length numbers), some_few);
      })

      pub leaf_taken : CountedTo tree query edges (suc j) work list'
      leaf_taken = record {
        work_long = c.work_long;
        list_long = omega (arith, c.list_long, size);
        at_first = λ e. absurd (omega arith);
        handed = λ p child h t. by p child h t (dec_lt p j);
        counts = leaf_counts;
        small = leaf_small;
      }
        where
          by : (p child : ℕ) → p < suc j → T (has_child child (node_at tree p).kind) → Dec (p < j)
              → get_or work child 0 ≡ reached_at tree query edges p
          by p child h t (yes g) = c.handed p child g t
          by p child h t (no f) =
              let e : p ≡ j = omega (arith, f) in
              absurd (no_child child (subst (λ (i : ℕ). T (has_child child (node_at tree i).kind)) e t))

    -- ---- an inner node

    module _ (test : Test) (l r : ℕ) (is_inner : (node_at tree j).kind ≡ inner test l r) where
      abbrev W : ℕ
      W = reached_at tree query edges j

      abbrev work' : List ℕ
      work' = set (set work l W) r W

      left_child : T (has_child l (node_at tree j).kind)
      left_child = rw is_inner (has_left test l r)

      right_child : T (has_child r (node_at tree j).kind)
      right_child = rw is_inner (has_right test l r)

      -- another node's children keep their places
      others_kept : (p child : ℕ) → p < j → T (has_child child (node_at tree p).kind) → get_or work' child 0 ≡ get_or work child 0
      others_kept p child h t =
          get_or-set_other (set work l W) r child W 0 (λ e. not_both r (subst (λ (i : ℕ). T (has_child i (node_at tree p).kind)) e t) right_child)
          ∙ get_or-set_other work l child W 0 (λ e. not_both l (subst (λ (i : ℕ). T (has_child i (node_at tree p).kind)) e t) left_child)
        where
          not_both : (i : ℕ) → T (has_child i (node_at tree p).kind) → T (has_child i (node_at tree j).kind) → ⊥
          not_both i a b = omega (arith, children.one_parent p j i a b)

      -- its own have what it has reached
      own_given : (child : ℕ) → In child (l ∷ r ∷ []) → get_or work' child 0 ≡ W
      own_given child i = by (same_or_not child r) (in_cons i)
        where
          room : (k : ℕ) → T (has_child k (node_at tree j).kind) → k < length work
          room k t = omega (arith, (children.child j k t).1, c.work_long)

          by : Dec (child ≡ r) → (child ≡ l) ⊎ In child (r ∷ []) → get_or work' child 0 ≡ W
          by (yes e) either = rw e (get_or-set_same (set work l W) r W 0 (omega (arith, length-set work l W, room r right_child)))
          by (no f) (inl e) = get_or-set_other (set work l W) r child W 0 f ∙ (rw e (get_or-set_same work l W 0 (room l left_child)))
          by (no f) (inr g) = by_last (in_cons g)
            where
              by_last : (child ≡ r) ⊎ In child [] → get_or work' child 0 ≡ W
              by_last (inl e) = absurd (f e)
              by_last (inr n) = absurd (in_nil n)

      none_counted : (passes : ℕ → Bool) → counted_to tree passes (suc j) ≡ counted_to tree passes j
      unfolding is_leaf_kind
      none_counted passes =
          let more : counted_to tree passes (suc j) ≡ counted_to tree passes j + 0 = rw is_inner at (counted_more tree passes j) in
          omega (arith, more)

      pub inner_taken : CountedTo tree query edges (suc j) work' list
      unfolding children_of
      inner_taken = record {
        work_long = omega (arith, c.work_long, length-set work l W, length-set (set work l W) r W);
        list_long = c.list_long;
        at_first = λ e. absurd (omega arith);
        handed = λ p child h t. by p child h t (dec_lt p j);
        counts = λ k h. c.counts k h ∙ ap₂ (λ (a b : ℕ). record { sure = a; possible = b })
            (sym (none_counted (is_sure tree query (band_at edges k)))) (sym (none_counted (is_possible tree query (band_at edges k))));
        small = λ k h. record { sure_small = omega (arith, (c.small k h).sure_small); possible_small = omega (arith, (c.small k h).possible_small) };
      }
        where
          own : (p child : ℕ) → p ≡ j → T (has_child child (node_at tree p).kind) → get_or work' child 0 ≡ reached_at tree query edges p
          own p child e t =
              let i : In child (children_of (node_at tree j).kind) =
              child_in child (node_at tree j).kind (subst (λ (q : ℕ). T (has_child child (node_at tree q).kind)) e t) in
              own_given child (rw is_inner at i) ∙ ap (reached_at tree query edges) (sym e)

          by : (p child : ℕ) → p < suc j → T (has_child child (node_at tree p).kind) → Dec (p < j)
              → get_or work' child 0 ≡ reached_at tree query edges p
          by p child h t (yes g) = others_kept p child g t ∙ c.handed p child g t
          by p child h t (no f) = own p child (omega (arith, f)) t

  -- ---- before the first

  pub none_taken : (work list : List ℕ) (above : ℕ) → above ≡ reached_above edges → 1 ≤ length work → length tree ≤ length work
      → 2 * (length edges - 1) ≤ length list → CountedTo tree query edges 0 (set work 0 above) (filled (2 * (length edges - 1)) 0 list)
  none_taken work list above is some room long = record {
    work_long = omega (arith, room, length-set work 0 above);
    list_long = omega (arith, filled_length (2 * (length edges - 1)) list long);
    at_first = λ e. get_or-set_same work 0 above 0 some ∙ is;
    handed = λ p child h t. absurd (omega arith);
    counts = λ k h. ap₂ (λ (a b : ℕ). record { sure = a; possible = b })
        (zero_at (2 * k) (omega arith) ∙ sym (counted_none tree (is_sure tree query (band_at edges k))))
        (zero_at (2 * k + 1) (omega arith) ∙ sym (counted_none tree (is_possible tree query (band_at edges k))));
    small = λ k h. record { sure_small = omega (arith, zero_at (2 * k) (omega arith)); possible_small = omega (arith, zero_at (2 * k + 1) (omega arith)) };
  }
    where
      zero_at : (i : ℕ) → i < 2 * (length edges - 1) → get_or (filled {A = ℕ} (2 * (length edges - 1)) 0 list) i 0 ≡ 0
      zero_at = filled_at (2 * (length edges - 1)) list
