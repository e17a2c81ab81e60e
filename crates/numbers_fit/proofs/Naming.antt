-- Every trace number in one leaf, by what names it: a number is in the leaves' lists as often as it is a leaf's first or the link of a
-- number of a list. So where every link rises, each number is in one list exactly if each is named once.
use Rattle.std.specs.Prelude.{if◌then◌else◌}
use Prim.Native.Nat.{ℕ, zero, suc, ◌+◌, ◌*◌, ◌-◌, ◌≤◌, ◌<◌}
use mathlib.Core.Path.{◌≡◌, refl, sym, ◌∙◌, ap, subst}
use mathlib.Core.Bool.{Bool, true, false, ◌&&◌}
use mathlib.Core.Logic.{◌⊎◌, inl, inr}
use mathlib.Core.List.{List, [], ◌∷◌, ◌++◌, map, flatten}
use native.Mathlib.Omega.{arith}
use lib.IntN.{ℤ}
use lib.ListN.{length, length-append, get_or}
use lib.Dec.{T, ltb, eqb, ltb→lt, lt→ltb, eqb→eq, eqb-suc-zero}
use mir.Facts.{and_yes, yes_and}
use borrow.Author.Tests.{eq-eqb, ne_eqb, eqb-true}
use Rattle.integer.proofs.Lists.{flat_append}
use Rattle.integer.specs.Words.{every, counting, times_in}
use Rattle.integer.proofs.Lists.{same_or_not, In, first, later, in_cons, in_nil, in_append, in_flat, InFlat, flat, from_flat, every_of, from_every, in_counting, from_counting}
use Rattle.integer.proofs.Tests.{is_true, eq→eqb}
use Rattle.integer.proofs.Times.{times_nil, times_same, times_other, times_append, times_in_lem, once_length, counting_length, parts_same}
use Rattle.dstree.specs.Node.{leaf}
use Rattle.dstree.specs.Matching.{numbers_in}
use Rattle.dstree.specs.WellFormed.{rising, leaf_fits}
use Rattle.tables.specs.Layout.{kind_place, first_place, right_place}
use Rattle.tables.specs.Tables.{record_of}
use Rattle.tables.specs.View.{small_at, numbers_from}
use Rattle.records_fit.specs.Fits.{AllFit}
use Rattle.records_fit.proofs.Loops.{each_passes}
use Rattle.records_fit.proofs.Children.{kind_named, head_fits_at}
use Rattle.numbers_fit.specs.Marks.{LinkRises}
use Rattle.numbers_fit.specs.Tests.{children_at, children_of_first, children_once, kind_at, leaf_fits_at, numbers_at, numbers_of_first, first_at, firsts_of, link_at, links_of, leaves_hold}
use Rattle.numbers_fit.proofs.ByKind.{no_child, two_children, is_leaf, no_number, inner_fits, leaf_numbers}
use Rattle.numbers_fit.proofs.Chains.{leaf_rises, leaf_of, followers, list_rest, list_is, list_first, Chain, chain, RisingBelow, list_rises}
use Rattle.numbers_fit.proofs.Once.{children_inside}

-- ---- a link

module _ (links : List ℕ) (y x : ℕ) where
  link_times : times_in x (link_at links y) ≤ 1
  link_times = by (eqb (get_or links y 0) 0)
    where
      side : Dec (x ≡ get_or links y 0) → times_in x (get_or links y 0 ∷ []) ≤ 1
      side (yes e) = subst (λ (z : ℕ). times_in x (z ∷ []) ≤ 1) e (omega (arith, times_same x [], times_nil x))
      side (no f) = omega (arith, times_other x (get_or links y 0) [] f, times_nil x)

      by : (b : Bool) → times_in x (if b then [] else get_or links y 0 ∷ []) ≤ 1
      by true = omega (arith, times_nil x)
      by false = side (same_or_not x (get_or links y 0))

  pub link_in : In x (link_at links y) → (x ≡ get_or links y 0) × (get_or links y 0 ≡ 0 → ⊥)
  link_in = by (same_or_not (get_or links y 0) 0)
    where
      only : (x ≡ get_or links y 0) ⊎ In x [] → x ≡ get_or links y 0
      only (inl e) = e
      only (inr i) = absurd (in_nil i)

      by : Dec (get_or links y 0 ≡ 0) → In x (link_at links y) → (x ≡ get_or links y 0) × (get_or links y 0 ≡ 0 → ⊥)
      by (yes e) i = absurd (in_nil (subst (λ (b : Bool). In x (if b then [] else get_or links y 0 ∷ [])) (eq-eqb (get_or links y 0) 0 e) i))
      by (no f) i = (only (in_cons (subst (λ (b : Bool). In x (if b then [] else get_or links y 0 ∷ [])) (ne_eqb (get_or links y 0) 0 f) i)), f)

-- ---- a node, by its kind field

module _ (nodes : List ℤ) (links : List ℕ) (k : ℕ) where
  data Sort (j : ℕ) : Type 0 where
    a_leaf : (number : ℕ) → kind_at nodes links k j ≡ leaf (numbers_from links (suc k) number) → first_at nodes j ≡ number ∷ [] → children_at nodes j ≡ [] → Sort j
    an_inner : (left right : ℕ) → numbers_at nodes links k j ≡ [] → leaf_fits_at nodes links k j ≡ true → first_at nodes j ≡ [] → children_at nodes j ≡ left ∷ (right ∷ []) → Sort j

  sort_of : {m : ℕ} → AllFit m nodes → (j : ℕ) → j < m → Sort j
  sort_of {m} a j h = by (same_or_not (small_at (record_of nodes j) kind_place) 0)
    where
      named : small_at (record_of nodes j) kind_place ≤ 2
      named = kind_named a.n m j (record_of nodes j) (head_fits_at a j h)

      by : Dec (small_at (record_of nodes j) kind_place ≡ 0) → Sort j
      by (yes e) = a_leaf (small_at (record_of nodes j) first_place) (is_leaf nodes j links k e) (rw (eq-eqb (small_at (record_of nodes j) kind_place) 0 e)) (no_child nodes j e)
      by (no f) =
          an_inner (small_at (record_of nodes j) first_place) (small_at (record_of nodes j) right_place) (no_number nodes j links k f named) (inner_fits nodes j links k f named)
          (rw (ne_eqb (small_at (record_of nodes j) kind_place) 0 f)) (two_children nodes j f named)

  -- a leaf's numbers
  numbers_are : (j number : ℕ) → kind_at nodes links k j ≡ leaf (numbers_from links (suc k) number) → numbers_at nodes links k j ≡ numbers_from links (suc k) number
  numbers_are j number e = ap numbers_in e ∙ leaf_numbers (numbers_from links (suc k) number)

-- ---- the first m nodes

module _ (nodes : List ℤ) (m : ℕ) (a : AllFit m nodes) (links : List ℕ) (k : ℕ) where
  abbrev all : List ℕ
  all = numbers_of_first nodes links k m

  abbrev names : List ℕ
  names = firsts_of nodes m ++ links_of links k

  sorted : (j : ℕ) → j < m → Sort nodes links k j
  sorted j h = sort_of nodes links k a j h

  -- leaves that rise below k
  pub record LeavesFit : Type 0 where
    pub each : (j : ℕ) → j < m → T (leaf_fits_at nodes links k j)
    pub low : (x : ℕ) → In x all → x < k

  here : (j : ℕ) → j < m → In j (counting m 0)
  here j h = in_counting m 0 j (omega arith) (omega arith)

  under : {j : ℕ} → In j (counting m 0) → j < m
  under i = omega (arith, (from_counting m 0 i).1)

  module _ (w : LeavesFit) where
    leaf_chain : (j number : ℕ) → j < m → kind_at nodes links k j ≡ leaf (numbers_from links (suc k) number) → Chain links (numbers_from links (suc k) number) number
    leaf_chain j number h e =
        chain links k k number (omega arith) (leaf_rises (numbers_from links (suc k) number) (subst (λ c. T (leaf_fits c)) e (w.each j h)))
        (λ x i. w.low x (in_flat (numbers_at nodes links k) (here j h) (subst (In x) (sym (numbers_are nodes links k j number e)) i)))

    -- a node's numbers: its first, and the links of its numbers
    node_times : (x j : ℕ) → j < m → times_in x (numbers_at nodes links k j) ≡ times_in x (first_at nodes j) + times_in x (followers links (numbers_at nodes links k j))
    unfolding flatten
    node_times x j h = by (sorted j h)
      where
        by : Sort nodes links k j → times_in x (numbers_at nodes links k j) ≡ times_in x (first_at nodes j) + times_in x (followers links (numbers_at nodes links k j))
        by (a_leaf number e f _) =
            let l = numbers_from links (suc k) number in
            let q : times_in x l ≡ times_in x (number ∷ []) + times_in x (followers links l) =
            ap (times_in x) (leaf_chain j number h e).is ∙ times_append x (number ∷ []) (followers links l) in
            rw (numbers_are nodes links k j number e, f) q
        by (an_inner _ _ e _ f _) = rw (e, f) (omega (arith, times_nil x))

    split : (x : ℕ) (js : List ℕ) → ((j : ℕ) → In j js → j < m) → times_in x (flatten (map (numbers_at nodes links k) js))
        ≡ times_in x (flatten (map (first_at nodes) js)) + times_in x (followers links (flatten (map (numbers_at nodes links k) js)))
    unfolding flatten
    split x [] h = omega (arith, times_nil x)
    split x (j ∷ js) h =
        let rest = flatten (map (numbers_at nodes links k) js) in
        omega (
          arith,
          times_append x (numbers_at nodes links k j) rest,
          times_append x (first_at nodes j) (flatten (map (first_at nodes) js)),
          ap (times_in x) (flat_append (link_at links) (numbers_at nodes links k j) rest),
          times_append x (followers links (numbers_at nodes links k j)) (followers links rest),
          node_times x j (h j first),
          split x js (λ i p. h i (later p)),
        )

    -- a number is in the leaves as often as it is named, if each that it is the link of is in them once
    pub named_times : (x : ℕ) → ((y : ℕ) → y < k → In x (link_at links y) → times_in y all ≡ 1) → times_in x all ≡ times_in x names
    named_times x once =
        omega (
          arith,
          split x (counting m 0) (λ j i. under i),
          parts_same (link_at links) k x (λ y. link_times links y x) all w.low once,
          times_append x (firsts_of nodes m) (links_of links k),
        )

    -- what is in a leaf has a link that rises
    pub links_rise : (y : ℕ) → In y all → LinkRises k y (get_or links y 0)
    links_rise y i = by (from_flat (numbers_at nodes links k) (counting m 0) i)
      where
        low_too : (j : ℕ) → In j (counting m 0) → (get_or links y 0 ≡ 0) ⊎ ((y < get_or links y 0) × In (get_or links y 0) (numbers_at nodes links k j)) → LinkRises k y (get_or links y 0)
        low_too j p (inl e) = inl e
        low_too j p (inr q) = inr (q.0, w.low (get_or links y 0) (in_flat (numbers_at nodes links k) p q.1))

        at : (j : ℕ) → In j (counting m 0) → In y (numbers_at nodes links k j) → Sort nodes links k j → LinkRises k y (get_or links y 0)
        at j p q (a_leaf number e _ _) =
            let s = numbers_are nodes links k j number e in
            low_too j p (subst (λ (l : List ℕ). (get_or links y 0 ≡ 0) ⊎ ((y < get_or links y 0) × In (get_or links y 0) l)) (sym s) ((leaf_chain j number (under p) e).on y (subst (In y) s q)))
        at j p q (an_inner _ _ e _ _ _) = absurd (in_nil (subst (In y) e q))

        by : InFlat (numbers_at nodes links k) y (counting m 0) → LinkRises k y (get_or links y 0)
        by (flat j p q) = at j p q (sorted j (under p))

-- no node has no number
pub no_leaves : (nodes : List ℤ) (m : ℕ) (links : List ℕ) (k : ℕ) → m ≡ 0 → eqb k 0 ≡ leaves_hold m nodes k links
unfolding leaves_hold counting flatten every times_in
no_leaves nodes m links zero e = rw e
no_leaves nodes m links (suc k) e = rw (e, eqb-suc-zero k)

-- ---- half of the nodes and one are leaves

module _ (nodes : List ℤ) (m : ℕ) (a : AllFit m nodes) where
  -- a leaf has a first number and no child, an inner node two children and no number
  two_each : (j : ℕ) → j < m → 2 * length (first_at nodes j) + length (children_at nodes j) ≡ 2
  two_each j h = by (sort_of nodes [] 0 a j h)
    where
      by : Sort nodes [] 0 j → 2 * length (first_at nodes j) + length (children_at nodes j) ≡ 2
      by (a_leaf number _ f c) = rw (f, c)
      by (an_inner left right _ _ f c) = rw (f, c)

  two_all : (js : List ℕ) → ((j : ℕ) → In j js → j < m) → 2 * length (flatten (map (first_at nodes) js)) + length (flatten (map (children_at nodes) js)) ≡ 2 * length js
  unfolding flatten
  two_all [] h = refl
  two_all (j ∷ js) h =
      omega (
        arith,
        length-append (first_at nodes j) (flatten (map (first_at nodes) js)),
        length-append (children_at nodes j) (flatten (map (children_at nodes) js)),
        two_each j (h j first),
        two_all js (λ i p. h i (later p)),
      )

  module _ (h : 0 < m) (c : children_once m nodes ≡ true) where
    once : (x : ℕ) → 1 ≤ x → x < 1 + (m - 1) → times_in x (children_of_first nodes m) ≡ 1
    unfolding children_once
    once x f g = eqb-true (times_in x (children_of_first nodes m)) 1 (each_passes (λ number. eqb (times_in number (children_of_first nodes m)) 1) (m - 1) 1 c x f g)

    pub leaves_many : 2 * length (firsts_of nodes m) ≡ m + 1
    leaves_many =
        omega (
          arith,
          two_all (counting m 0) (λ j i. omega (arith, (from_counting m 0 i).1)),
          counting_length m 0,
          once_length (m - 1) 1 (children_of_first nodes m) once (children_inside nodes m a),
          h,
        )

-- ---- from names to leaves

module _ (nodes : List ℤ) (m : ℕ) (a : AllFit m nodes) (links : List ℕ) (k : ℕ) where
  abbrev within : ℕ → Bool
  within number = ltb number k

  abbrev met : List ℕ
  met = numbers_of_first nodes links k m

  abbrev called : List ℕ
  called = firsts_of nodes m ++ links_of links k

  at : (j : ℕ) → j < m → In j (counting m 0)
  at j h = in_counting m 0 j (omega arith) (omega arith)

  module _ (low : T (every within (firsts_of nodes m))) (fit : (i : ℕ) → i < k → LinkRises k i (get_or links i 0)) where
    rises : (j number : ℕ) → j < m → first_at nodes j ≡ number ∷ [] → RisingBelow links k (numbers_from links (suc k) number)
    rises j number h f =
        list_rises links k fit k number (ltb→lt number k (from_every within (firsts_of nodes m) low (in_flat (first_at nodes) (at j h) (subst (In number) (sym f) first))))

    leaves_fit : LeavesFit nodes m a links k
    leaves_fit = record { each = λ j h. each j h (sort_of nodes links k a j h); low = λ x i. under_k x (from_flat (numbers_at nodes links k) (counting m 0) i) }
      where
        each : (j : ℕ) → j < m → Sort nodes links k j → T (leaf_fits_at nodes links k j)
        each j h (a_leaf number e f _) =
            let q = list_is links k number in
            subst (λ c. T (leaf_fits c)) (sym e)
            (subst (λ (l : List ℕ). T (leaf_fits (leaf l))) (sym q) (leaf_of number (list_rest links k number) (subst (λ (l : List ℕ). T (rising l)) q (rises j number h f).rise)))
        each j h (an_inner _ _ _ e _ _) = is_true e

        side : (x j : ℕ) → j < m → In x (numbers_at nodes links k j) → Sort nodes links k j → x < k
        side x j h i (a_leaf number e f _) = (rises j number h f).low x (subst (In x) (numbers_are nodes links k j number e) i)
        side x j h i (an_inner _ _ e _ _ _) = absurd (in_nil (subst (In x) e i))

        under_k : (x : ℕ) → InFlat (numbers_at nodes links k) x (counting m 0) → x < k
        under_k x (flat j p q) = let h : j < m = omega (arith, (from_counting m 0 p).1) in side x j h q (sort_of nodes links k a j h)

    module _ (once : (x : ℕ) → x < k → times_in x called ≡ 1) where
      in_once : (b x : ℕ) → x < b → x < k → times_in x met ≡ 1
      in_once zero x g h = absurd (omega arith)
      in_once (suc b) x g h = named_times nodes m a links k leaves_fit x (λ y l i. before y l (link_in links y x i) (fit y l) (in_once b y)) ∙ once x h
        where
          before : (y : ℕ) → y < k → (x ≡ get_or links y 0) × (get_or links y 0 ≡ 0 → ⊥) → LinkRises k y (get_or links y 0) → (y < b → y < k → times_in y met ≡ 1) → times_in y met ≡ 1
          before y l p (inl e) ih = absurd (p.1 e)
          before y l p (inr q) ih = ih (omega (arith, p.0, q.0, g)) l

      pub leaves_sound : T (leaves_hold m nodes k links)
      unfolding leaves_hold
      leaves_sound =
          yes_and (every (leaf_fits_at nodes links k) (counting m 0)) (every (λ number. eqb (times_in number met) 1) (counting k 0) && every within met)
          (every_of (leaf_fits_at nodes links k) (counting m 0) (λ j i. leaves_fit.each j (omega (arith, (from_counting m 0 i).1))))
          (yes_and (every (λ number. eqb (times_in number met) 1) (counting k 0)) (every within met)
          (every_of (λ number. eqb (times_in number met) 1) (counting k 0) (λ x i. eq→eqb (in_once (suc x) x (omega arith) (omega (arith, (from_counting k 0 i).1)))))
          (every_of within met (λ x i. lt→ltb x k (leaves_fit.low x i))))

  -- ---- from leaves to names

  module _ (t : T (leaves_hold m nodes k links)) where
    parts : T (every (leaf_fits_at nodes links k) (counting m 0)) × (T (every (λ number. eqb (times_in number met) 1) (counting k 0)) × T (every within met))
    unfolding leaves_hold
    parts =
        let p = and_yes (every (leaf_fits_at nodes links k) (counting m 0)) (every (λ number. eqb (times_in number met) 1) (counting k 0) && every within met) t in
        (p.0, and_yes (every (λ number. eqb (times_in number met) 1) (counting k 0)) (every within met) p.1)

    fits_all : LeavesFit nodes m a links k
    fits_all = record {
      each = λ j h. from_every (leaf_fits_at nodes links k) (counting m 0) parts.0 (at j h);
      low = λ x i. ltb→lt x k (from_every within met parts.1.1 i);
    }

    met_once : (x : ℕ) → x < k → times_in x met ≡ 1
    met_once x h = eqb→eq (times_in x met) 1 (from_every (λ number. eqb (times_in number met) 1) (counting k 0) parts.1.0 (in_counting k 0 x (omega arith) (omega arith)))

    pub links_fit : (i : ℕ) → i < k → LinkRises k i (get_or links i 0)
    links_fit i h = links_rise nodes m a links k fits_all i (times_in_lem i met (omega (arith, met_once i h)))

    pub called_once : (x : ℕ) → x < k → times_in x called ≡ 1
    called_once x h = sym (named_times nodes m a links k fits_all x (λ y l _. met_once y l)) ∙ met_once x h

    first_low : (x : ℕ) → In x (firsts_of nodes m) → x < k
    first_low x i = by (from_flat (first_at nodes) (counting m 0) i)
      where
        only : (number : ℕ) → (x ≡ number) ⊎ In x [] → x ≡ number
        only number (inl e) = e
        only number (inr p) = absurd (in_nil p)

        side : (j : ℕ) → j < m → In x (first_at nodes j) → Sort nodes links k j → x < k
        side j h p (a_leaf number e f _) =
            fits_all.low x (in_flat (numbers_at nodes links k) (at j h) (subst (In x) (sym (numbers_are nodes links k j number e))
            (subst (λ (y : ℕ). In y (numbers_from links (suc k) number)) (sym (only number (in_cons (subst (In x) f p)))) (list_first links k number))))
        side j h p (an_inner _ _ _ _ f _) = absurd (in_nil (subst (In x) f p))

        by : InFlat (first_at nodes) x (counting m 0) → x < k
        by (flat j p q) = let h : j < m = omega (arith, (from_counting m 0 p).1) in side j h q (sort_of nodes links k a j h)

    pub firsts_low : T (every within (firsts_of nodes m))
    firsts_low = every_of within (firsts_of nodes m) (λ x i. lt→ltb x k (first_low x i))

  -- links that rise below k
  pub link_low : ((i : ℕ) → i < k → LinkRises k i (get_or links i 0)) → (x : ℕ) → In x (links_of links k) → x < k
  link_low fit x i = by (from_flat (link_at links) (counting k 0) i)
    where
      side : (y : ℕ) → (x ≡ get_or links y 0) × (get_or links y 0 ≡ 0 → ⊥) → LinkRises k y (get_or links y 0) → x < k
      side y p (inl e) = absurd (p.1 e)
      side y p (inr q) = omega (arith, p.0, q.1)

      by : InFlat (link_at links) x (counting k 0) → x < k
      by (flat y p q) = side y (link_in links y x q) (fit y (omega (arith, (from_counting k 0 p).1)))

  pub called_low : T (every within (firsts_of nodes m)) → ((i : ℕ) → i < k → LinkRises k i (get_or links i 0)) → (x : ℕ) → In x called → x < k
  called_low low fit x i = by (in_append (firsts_of nodes m) i)
    where
      by : In x (firsts_of nodes m) ⊎ In x (links_of links k) → x < k
      by (inl p) = ltb→lt x k (from_every within (firsts_of nodes m) low p)
      by (inr p) = link_low fit x p
