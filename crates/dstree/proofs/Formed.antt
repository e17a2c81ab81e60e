-- The test for well-formed tables passes exactly if the rules hold as facts: `formed` has them of a tree that passes, `well_formed_lem` leads
-- back.
use Prim.Native.Nat.{ℕ, zero, suc, ◌+◌, ◌*◌, ◌-◌, ◌≤◌, ◌<◌}
use mathlib.Core.Path.{◌≡◌, refl, sym, ◌∙◌, ap, subst}
use mathlib.Core.Bool.{Bool, true, false, not, ◌&&◌, ◌||◌, beq}
use mathlib.Core.List.{List, [], ◌∷◌, map, foldl, flatten}
use native.Mathlib.Omega.{arith}
use native.Mathlib.Decide.{dec_le}
use native.Mathlib.Nat.{lt_of_not-le}
use lib.ListN.{length, get_or-eq_default}
use lib.IntN.{ℤ, pos, neg_ℤ, nat_abs}
use lib.Signed.{le_z, le_z_yes}
use lib.Dec.{T, leb, ltb, eqb, leb→le, le→leb, ltb→lt, lt→ltb, eqb→eq, eqb_refl}
use mir.Facts.{and_yes, yes_and}
use borrow.Author.Tests.{eqb-true, eqb-false}
use Rattle.integer.specs.Words.{every, counting, is_empty, is_in, times_in, last_of}
use Rattle.integer.proofs.Tests.{Each, passed, passes, eq→eqb}
use Rattle.integer.proofs.Order.{nat_abs_le, le_nat_abs}
use Rattle.integer.proofs.Lists.{In, first, later, is_in_lem, in_is, in_nil, not_empty, every_of, from_every, in_counting, from_counting}
use Rattle.integer.proofs.Lists.{Up, u_none, u_more, InFlat, flat, from_flat, in_flat, in_get_or}
use Rattle.integer.proofs.Times.{times_same, times_other, times_none, times_in_lem, up_once, OnceAt, once_at, times_once, place_of}
use Rattle.segment.specs.Limits.{sum_limit, scatter_limit, root_limit}
use Rattle.dstree.specs.Measures.{Measures, in_range}
use Rattle.dstree.specs.Figures.{run, width}
use Rattle.dstree.specs.Node.{Segment, Figure, by_sum, by_scatter, Test, Kind, leaf, inner, Node, node, Tree, node_at, ends}
use Rattle.dstree.specs.Matching.{has_child, numbers_in}
use Rattle.dstree.specs.WellFormed.{rising, every_node, children_of, children_above, child_once, ends_fit, ends_kept, leaf_fits, in_one_leaf}
use Rattle.dstree.specs.WellFormed.{within_ℤ, segment_fits, segments_fit, threshold_fits, test_fits, node_fits, well_formed_tree}
pub use Rattle.dstree.specs.Formed.{Parent, Kept, Limited, AllLimited, l_none, l_more, Between, TestIn, Limits, Formed}
use Rattle.dstree.specs.Formed.{Parted, p_last, p_more, Fits, Shape}

-- ---- every node passes a test

from_nodes : (passes : ℕ → Node → Bool) (number : ℕ) (tree : Tree) → T (every_node passes number tree) → (k j : ℕ) → j ≡ number + k → k < length tree → T (passes j (node_at tree k))
unfolding every_node
from_nodes passes number [] t k j e h = absurd (omega arith)
from_nodes passes number (a ∷ rest) t zero j e h = let q : number ≡ j = omega arith in subst (λ (i : ℕ). T (passes i a)) q (and_yes (passes number a) (every_node passes (suc number) rest) t).0
from_nodes passes number (a ∷ rest) t (suc k) j e h = from_nodes passes (suc number) rest (and_yes (passes number a) (every_node passes (suc number) rest) t).1 k j (omega arith) (omega arith)

every_node_lem : (passes : ℕ → Node → Bool) (number : ℕ) (tree : Tree) → ((k j : ℕ) → j ≡ number + k → k < length tree → T (passes j (node_at tree k))) → T (every_node passes number tree)
unfolding every_node
every_node_lem passes number [] h = tt
every_node_lem passes number (a ∷ rest) h =
    yes_and (passes number a) (every_node passes (suc number) rest) (h 0 number (omega arith) (omega arith)) (every_node_lem passes (suc number) rest
    (λ k j e g. h (suc k) j (omega arith) (omega arith)))

-- what stands past the last node: a leaf with nothing in it. What that does not have, only a node of the tree has
abbrev pub empty_leaf : Node
empty_leaf = node [] (leaf [])

pub is_node : (P : Node → Type 0) (tree : Tree) (k : ℕ) → (P (node [] (leaf [])) → ⊥) → P (node_at tree k) → k < length tree
is_node P tree k never p = by (dec_le (length tree) k)
  where
    by : Dec (length tree ≤ k) → k < length tree
    by (yes h) = absurd (never (subst P (get_or-eq_default tree empty_leaf h) p))
    by (no f) = lt_of_not-le f

-- ---- children

pub child_in : (c : ℕ) (kind : Kind) → T (has_child c kind) → In c (children_of kind)
unfolding has_child children_of
child_in c (leaf ns) t = absurd t
child_in c (inner test l r) t = by (eqb c l) (eqb c r) refl refl t
  where
    by : (a b : Bool) → eqb c l ≡ a → eqb c r ≡ b → T (a || b) → In c (l ∷ r ∷ [])
    by true b p q t = subst (λ (x : ℕ). In c (x ∷ r ∷ [])) (eqb→eq c l (subst T (sym p) tt)) first
    by false true p q t = later (subst (λ (x : ℕ). In c (x ∷ [])) (eqb→eq c r (subst T (sym q) tt)) first)
    by false false p q t = absurd t

pub in_child : (c : ℕ) (kind : Kind) → In c (children_of kind) → T (has_child c kind)
unfolding has_child children_of
in_child c (leaf ns) i = absurd (in_nil i)
in_child c (inner test l r) first = by (eqb c c) (eqb_refl c)
  where
    by : (a : Bool) → T a → T (a || eqb c r)
    by true t = tt
    by false t = absurd t
in_child c (inner test l r) (later first) = by (eqb c l) (eqb c c) (eqb_refl c)
  where
    by : (a b : Bool) → T b → T (a || b)
    by true b t = tt
    by false b t = t
in_child c (inner test l r) (later (later i)) = absurd (in_nil i)

pub child_node : (tree : Tree) (p c : ℕ) → T (has_child c (node_at tree p).kind) → p < length tree
unfolding has_child
child_node tree p c t = is_node (λ a. T (has_child c a.kind)) tree p (λ t. t) t

-- of two children that differ, each is a child once
pair_once : {c l r : ℕ} → (l ≡ r → ⊥) → In c (l ∷ r ∷ []) → times_in c (l ∷ r ∷ []) ≡ 1
pair_once {c} {l} {r} f first = omega (arith, times_same c (r ∷ []), times_other c r [] f, times_none c [] (λ i. in_nil i))
pair_once {c} {l} {r} f (later first) = omega (arith, times_other c l (c ∷ []) (λ e. f (sym e)), times_same c [], times_none c [] (λ i. in_nil i))
pair_once f (later (later i)) = absurd (in_nil i)

once_differ : (l r : ℕ) → times_in l (l ∷ r ∷ []) ≡ 1 → l ≡ r → ⊥
once_differ l r t e = omega (arith, subst (λ (x : ℕ). times_in l (l ∷ x ∷ []) ≡ 1) (sym e) t, times_same l (l ∷ []), times_same l [])

-- ---- numbers that rise, and ends

rising_up : (x : ℕ) (l : List ℕ) → T (rising (x ∷ l)) → Up (suc x) l
unfolding rising
rising_up x [] t = u_none
rising_up x (y ∷ l) t = let u = and_yes (ltb x y) (rising (y ∷ l)) t in u_more {k = suc x} {a = y} (ltb→lt x y u.0) (rising_up y l u.1)

up_rising : (x : ℕ) {l : List ℕ} → Up (suc x) l → T (rising (x ∷ l))
unfolding rising
up_rising x u_none = tt
up_rising x (u_more {a} {l} h u) = yes_and (ltb x a) (rising (a ∷ l)) (lt→ltb x a h) (up_rising a u)

rising_up_0 : (l : List ℕ) → T (rising l) → Up 0 l
rising_up_0 [] t = u_none
rising_up_0 (x ∷ l) t = u_more {k = 0} {a = x} (omega arith) (rising_up x l t)

up_rising_0 : {k : ℕ} {l : List ℕ} → Up k l → T (rising l)
unfolding rising
up_rising_0 u_none = tt
up_rising_0 (u_more {a} h u) = up_rising a u

not_empty_some : {A : Type 0} (l : List A) → 0 < length l → T (not (is_empty l))
unfolding is_empty
not_empty_some [] h = omega arith
not_empty_some (a ∷ l) h = tt

parted_of : (n : ℕ) {from : ℕ} (d : ℕ) {l : List ℕ} → 0 < length l → Up from l → foldl (λ before now. now) d l ≡ n → Parted n from l
parted_of n d h u_none e = absurd (omega arith)
parted_of n {from} d h (u_more {a} {l = []} g u) e = subst (λ (x : ℕ). Parted n from (x ∷ [])) (sym e) (p_last (omega arith))
parted_of n d h (u_more {a} {l = b ∷ l} g u) e = p_more g (parted_of n a (omega arith) u e)

parted_up : {n from : ℕ} {l : List ℕ} → Parted n from l → Up from l
parted_up {n} {from} (p_last h) = u_more {k = from} {a = n} h u_none
parted_up {n} {from} (p_more {e} h p) = u_more {k = from} {a = e} h (parted_up p)

parted_last : {n from : ℕ} (d : ℕ) {l : List ℕ} → Parted n from l → foldl (λ before now. now) d l ≡ n
parted_last d (p_last h) = refl
parted_last d (p_more {e} h p) = parted_last e p

parted_some : {n from : ℕ} {l : List ℕ} → Parted n from l → 0 < length l
parted_some (p_last h) = omega arith
parted_some (p_more h p) = omega arith

module _ (n : ℕ) (all : List ℕ) where
  abbrev end_tests : List Bool
  end_tests = leb (length all) 16 ∷ rising (0 ∷ all) ∷ eqb (last_of all) n ∷ []

  fits_of : T (ends_fit n all) → Fits n all
  unfolding ends_fit
  fits_of t =
      let p = passed (not (is_empty all)) end_tests t in
      record { parted = parted_of n 0 (not_empty all p.0) (rising_up 0 all p.1.1.0) (eqb→eq (last_of all) n p.1.1.1); few = leb→le (length all) 16 p.1.0 }

  of_fits : Fits n all → T (ends_fit n all)
  unfolding ends_fit
  of_fits f = passes (not (is_empty all)) end_tests
      (not_empty_some all (parted_some f.parted), (le→leb (length all) 16 f.few, (up_rising 0 (parted_up f.parted), eq→eqb (parted_last 0 f.parted))))

-- ---- limits

within_of : (x : ℕ) (z : ℤ) → T (within_ℤ x z) → nat_abs z ≤ x
unfolding within_ℤ
within_of x z t = let p = and_yes (le_z (neg_ℤ (pos x)) z) (le_z z (pos x)) t in le_nat_abs (le_z_yes p.0) (le_z_yes p.1)

of_within : (x : ℕ) (z : ℤ) → nat_abs z ≤ x → T (within_ℤ x z)
unfolding within_ℤ
of_within x z h = let p = nat_abs_le h in yes_and (le_z (neg_ℤ (pos x)) z) (le_z z (pos x)) p.0.le p.1.le

module _ (limit w : ℕ) (s : Segment) where
  abbrev segment_tests : List Bool
  segment_tests = leb s.least_scatter s.greatest_scatter ∷ within_ℤ (sum_limit limit w) s.least_sum ∷ within_ℤ (sum_limit limit w)
      s.greatest_sum ∷ leb s.greatest_scatter (scatter_limit limit w) ∷ []

  limited_of : T (segment_fits limit w s) → Limited limit w s
  unfolding segment_fits
  limited_of t =
      let p = passed (le_z s.least_sum s.greatest_sum) segment_tests t in
      record {
        sums = le_z_yes p.0;
        scatters = leb→le s.least_scatter s.greatest_scatter p.1.0;
        least_sum_lem = within_of (sum_limit limit w) s.least_sum p.1.1.0;
        greatest_sum_lem = within_of (sum_limit limit w) s.greatest_sum p.1.1.1.0;
        greatest_scatter_lem = leb→le s.greatest_scatter (scatter_limit limit w) p.1.1.1.1;
      }

  of_limited : Limited limit w s → T (segment_fits limit w s)
  unfolding segment_fits
  of_limited l = passes (le_z s.least_sum s.greatest_sum) segment_tests (
    l.sums.le,
    (
      le→leb s.least_scatter s.greatest_scatter l.scatters,
      (
        of_within (sum_limit limit w) s.least_sum l.least_sum_lem,
        (of_within (sum_limit limit w) s.greatest_sum l.greatest_sum_lem, le→leb s.greatest_scatter (scatter_limit limit w) l.greatest_scatter_lem),
      ),
    ),
  )

all_limited_of : (limit from : ℕ) (l : List Segment) → T (segments_fit limit from l) → AllLimited limit from l
unfolding segments_fit
all_limited_of limit from [] t = l_none
all_limited_of limit from (s ∷ rest) t =
    let p = and_yes (segment_fits limit (width (run from s.end)) s) (segments_fit limit (suc s.end) rest) t in
    l_more (limited_of limit (width (run from s.end)) s p.0) (all_limited_of limit (suc s.end) rest p.1)

of_all_limited : {limit from : ℕ} {l : List Segment} → AllLimited limit from l → T (segments_fit limit from l)
unfolding segments_fit
of_all_limited l_none = tt
of_all_limited {limit} (l_more {from} {s} {rest} h a) =
    yes_and (segment_fits limit (width (run from s.end)) s) (segments_fit limit (suc s.end) rest) (of_limited limit (width (run from s.end)) s h) (of_all_limited a)

between_of : (limit : ℕ) (figure : Figure) (w : ℕ) (t : ℤ) → T (threshold_fits limit figure w t) → Between limit figure w t
unfolding threshold_fits
between_of limit by_sum w t h = within_of (2 * sum_limit limit w) t h
between_of limit by_scatter w t h = let p = and_yes (le_z (pos 0) t) (le_z t (pos (2 * root_limit limit w))) h in (le_z_yes p.0, le_z_yes p.1)

of_between : (limit : ℕ) (figure : Figure) (w : ℕ) (t : ℤ) → Between limit figure w t → T (threshold_fits limit figure w t)
unfolding threshold_fits
of_between limit by_sum w t h = of_within (2 * sum_limit limit w) t h
of_between limit by_scatter w t h = yes_and (le_z (pos 0) t) (le_z t (pos (2 * root_limit limit w))) h.0.le h.1.le

module _ (limit n : ℕ) (test : Test) where
  abbrev test_tests : List Bool
  test_tests = leb test.on.first test.on.last ∷ leb test.on.last n ∷ threshold_fits limit test.figure (width test.on) test.threshold ∷ []

  test_of : (left right : ℕ) → T (test_fits limit n (inner test left right)) → TestIn limit n test
  unfolding test_fits
  test_of left right t =
      let p = passed (leb 1 test.on.first) test_tests t in
      record {
        run_in = record {
          from_1 = leb→le 1 test.on.first p.0;
          rises = leb→le test.on.first test.on.last p.1.0;
          to_n = leb→le test.on.last n p.1.1.0;
        };
        threshold_in = between_of limit test.figure (width test.on) test.threshold p.1.1.1;
      }

  of_test : (left right : ℕ) → TestIn limit n test → T (test_fits limit n (inner test left right))
  unfolding test_fits
  of_test left right t =
      let on = t.run_in in
      passes (leb 1 test.on.first) test_tests (
        le→leb 1 test.on.first on.from_1,
        (
          le→leb test.on.first test.on.last on.rises,
          (le→leb test.on.last n on.to_n, of_between limit test.figure (width test.on) test.threshold t.threshold_in),
        ),
      )

-- ---- a node, by its kind

leaf_of : {kind : Kind} (ns : List ℕ) → T (leaf_fits kind) → kind ≡ leaf ns → Up 0 ns × (0 < length ns)
unfolding leaf_fits
leaf_of ns t e =
    let p = and_yes (rising ns) (not (is_empty ns)) (subst (λ (a : Kind). T (leaf_fits a)) e t) in
    (rising_up_0 ns p.0, not_empty ns p.1)

of_leaf : (kind : Kind) → ((ns : List ℕ) → kind ≡ leaf ns → Up 0 ns × (0 < length ns)) → T (leaf_fits kind)
unfolding leaf_fits
of_leaf (leaf ns) h = yes_and (rising ns) (not (is_empty ns)) (up_rising_0 (h ns refl).0) (not_empty_some ns (h ns refl).1)
of_leaf (inner test left right) h = tt

of_inner : (limit n : ℕ) (kind : Kind) → ((test : Test) (left right : ℕ) → kind ≡ inner test left right → TestIn limit n test) → T (test_fits limit n kind)
unfolding test_fits
of_inner limit n (leaf ns) h = tt
of_inner limit n (inner test left right) h = of_test limit n test left right (h test left right refl)

-- of two children that differ, each is there once
pub children_once : (c : ℕ) (kind : Kind) → ((test : Test) (left right : ℕ) → kind ≡ inner test left right → left ≡ right → ⊥)
    → In c (children_of kind) → times_in c (children_of kind) ≡ 1
unfolding children_of
children_once c (leaf ns) differ i = absurd (in_nil i)
children_once c (inner test left right) differ i = pair_once (differ test left right refl) i

-- the numbers of any node rise
pub numbers_up : {n count : ℕ} {tree : Tree} (s : Shape n count tree) (k : ℕ) → Up 0 (numbers_in (node_at tree k).kind)
unfolding numbers_in
numbers_up {tree = tree} s k = by (node_at tree k).kind (s.rises k)
  where
    by : (kind : Kind) → ((ns : List ℕ) → kind ≡ leaf ns → Up 0 ns) → Up 0 (numbers_in kind)
    by (leaf ns) h = h ns refl
    by (inner test left right) h = u_none

pub number_node : (tree : Tree) (t k : ℕ) → T (is_in t (numbers_in (node_at tree k).kind)) → k < length tree
unfolding numbers_in is_in
number_node tree t k i = is_node (λ a. T (is_in t (numbers_in a.kind))) tree k (λ t. t) i

pub inner_node : (tree : Tree) (k : ℕ) (test : Test) (left right : ℕ) → (node_at tree k).kind ≡ inner test left right → k < length tree
inner_node tree k test left right e = is_node (λ a. a.kind ≡ inner test left right) tree k (λ q. let z : ◌≡◌ {A = ℕ} 0 1 = cc in omega arith) e

-- "no node exactly when no trace"
same_empty : (a b : ℕ) → T (beq (eqb a 0) (eqb b 0)) → (a ≡ 0 → b ≡ 0) × (b ≡ 0 → a ≡ 0)
same_empty a b t = by (eqb a 0) (eqb b 0) refl refl t
  where
    by : (x y : Bool) → eqb a 0 ≡ x → eqb b 0 ≡ y → T (beq x y) → (a ≡ 0 → b ≡ 0) × (b ≡ 0 → a ≡ 0)
    by true true p q t = (λ _. eqb-true b 0 q, λ _. eqb-true a 0 p)
    by true false p q t = absurd t
    by false true p q t = absurd t
    by false false p q t = (λ e. absurd (eqb-false a 0 p e), λ e. absurd (eqb-false b 0 q e))

of_same_empty : (a b : ℕ) → (a ≡ 0 → b ≡ 0) → (b ≡ 0 → a ≡ 0) → T (beq (eqb a 0) (eqb b 0))
of_same_empty a b f g = by (eqb a 0) (eqb b 0) refl refl
  where
    by : (x y : Bool) → eqb a 0 ≡ x → eqb b 0 ≡ y → T (beq x y)
    by true true p q = tt
    by true false p q = eqb-false b 0 q (f (eqb-true a 0 p))
    by false true p q = eqb-false a 0 p (g (eqb-true b 0 q))
    by false false p q = tt

abbrev pub node_children : Node → List ℕ
node_children a = children_of a.kind

abbrev pub node_numbers : Node → List ℕ
node_numbers a = numbers_in a.kind

-- ---- each child and each number once

module _ {n count : ℕ} {tree : Tree} (s : Shape n count tree) where
  pub child_times : (k : ℕ) → 0 < k → k < length tree → times_in k (flatten (map node_children tree)) ≡ 1
  child_times k low high = times_once node_children empty_leaf k tree (place (s.children.parented k low high))
    where
      place : Parent tree k → OnceAt node_children empty_leaf tree k
      place p = record {
        place = p.parent;
        inside = child_node tree p.parent k p.has;
        once = children_once k (node_at tree p.parent).kind (s.children.children_differ p.parent) (child_in k (node_at tree p.parent).kind p.has);
        only = λ j h i. s.children.one_parent j p.parent k (in_child k (node_at tree j).kind i) p.has;
      }

  pub number_times : (t : ℕ) → t < count → times_in t (flatten (map node_numbers tree)) ≡ 1
  number_times t h = times_once node_numbers empty_leaf t tree (place (s.kept t h))
    where
      place : Kept tree t → OnceAt node_numbers empty_leaf tree t
      place p = record {
        place = p.at;
        inside = number_node tree t p.at p.holds;
        once = up_once (numbers_up s p.at) (is_in_lem t (numbers_in (node_at tree p.at).kind) p.holds);
        only = λ j h i. s.one_leaf t j p.at (in_is i) p.holds;
      }

  pub numbers_below : (t : ℕ) → In t (flatten (map node_numbers tree)) → t < count
  numbers_below t i = by (from_flat node_numbers tree i)
    where
      by : InFlat node_numbers t tree → t < count
      by (flat a i j) = let p = place_of empty_leaf i in s.numbers t p.place (in_is (subst (λ (b : Node). In t (node_numbers b)) (sym p.is_it) j))

  pub children_above_lem : (c : ℕ) → In c (flatten (map node_children tree)) → (0 < c) × (c < length tree)
  children_above_lem c i = by (from_flat node_children tree i)
    where
      by : InFlat node_children c tree → (0 < c) × (c < length tree)
      by (flat a i j) =
          let p = place_of empty_leaf i in
          let h = s.children.child p.place c (in_child c (node_at tree p.place).kind (subst (λ (b : Node). In c (node_children b)) (sym p.is_it) j)) in
          (omega (arith, h.0), h.1)

-- ---- both directions

module _ (limit : ℕ) (m : Measures) (count : ℕ) (tree : Tree) where
  -- the tests of the tree and of a node, but for the first of each
  abbrev rule_tests : List Bool
  rule_tests = leb count m.capacity ∷ beq (eqb (length tree) 0) (eqb count 0) ∷ every_node (node_fits limit m.n tree) 0 tree ∷ child_once tree ∷ in_one_leaf count tree ∷ []

  abbrev node_tests : Node → List Bool
  node_tests a = ends_fit m.n (ends a.segments) ∷ ends_kept tree a ∷ leaf_fits a.kind ∷ segments_fit limit 1 a.segments ∷ test_fits limit m.n a.kind ∷ []

  -- the tests that `child_once` and `in_one_leaf` make of a number
  abbrev child_test : ℕ → Bool
  child_test k = eqb (times_in k (flatten (map node_children tree))) 1

  abbrev leaf_test : ℕ → Bool
  leaf_test t = eqb (times_in t (flatten (map node_numbers tree))) 1

  abbrev count_test : ℕ → Bool
  count_test t = ltb t count

  -- what the test shows
  module _ (t : T (well_formed_tree limit m count tree)) where
    rules : Each (in_range m) rule_tests
    unfolding well_formed_tree
    rules = passed (in_range m) rule_tests t

    at_node : (k : ℕ) → k < length tree → Each (children_above tree k (node_at tree k)) (node_tests (node_at tree k))
    unfolding node_fits
    at_node k h = passed (children_above tree k (node_at tree k)) (node_tests (node_at tree k)) (from_nodes (node_fits limit m.n tree) 0 tree rules.1.1.1.0 k k (omega arith) h)

    child_above : (p c : ℕ) → T (has_child c (node_at tree p).kind) → (p < c) × (c < length tree)
    unfolding children_above
    child_above p c h =
        let u = and_yes (ltb p c) (ltb c (length tree))
        (from_every (λ child. ltb p child && ltb child (length tree)) (children_of (node_at tree p).kind) (at_node p (child_node tree p c h)).0 (child_in c (node_at tree p).kind h)) in
        (ltb→lt p c u.0, ltb→lt c (length tree) u.1)

    child_once_lem : (k : ℕ) → 0 < k → k < length tree → OnceAt node_children empty_leaf tree k
    unfolding child_once
    child_once_lem k low high = once_at node_children empty_leaf k tree
        (eqb→eq _ 1 (from_every child_test (counting (length tree - 1) 1) rules.1.1.1.1.0 (in_counting (length tree - 1) 1 k low (omega arith))))

    numbers_tests : T (every leaf_test (counting count 0)) × T (every count_test (flatten (map node_numbers tree)))
    unfolding in_one_leaf
    numbers_tests = and_yes (every leaf_test (counting count 0)) (every count_test (flatten (map node_numbers tree))) rules.1.1.1.1.1

    number_below : (t k : ℕ) → T (is_in t (numbers_in (node_at tree k).kind)) → t < count
    number_below t k i = ltb→lt t count
        (from_every count_test (flatten (map node_numbers tree)) numbers_tests.1
        (in_flat node_numbers (in_get_or tree k empty_leaf (number_node tree t k i)) (is_in_lem t (numbers_in (node_at tree k).kind) i)))

    number_once : (t : ℕ) → t < count → OnceAt node_numbers empty_leaf tree t
    number_once t h = once_at node_numbers empty_leaf t tree (eqb→eq _ 1 (from_every leaf_test (counting count 0) numbers_tests.0 (in_counting count 0 t (omega arith) (omega arith))))

    parent_of : (k : ℕ) → OnceAt node_children empty_leaf tree k → Parent tree k
    parent_of k o = record { parent = o.place; has = in_child k (node_at tree o.place).kind (times_in_lem k (node_children (node_at tree o.place)) (omega (arith, o.once))) }

    leaf_holding : (t : ℕ) → OnceAt node_numbers empty_leaf tree t → Kept tree t
    leaf_holding t o = record { at = o.place; holds = in_is (times_in_lem t (node_numbers (node_at tree o.place)) (omega (arith, o.once))) }

    parent_only : (p q c : ℕ) → T (has_child c (node_at tree p).kind) → T (has_child c (node_at tree q).kind) → p ≡ q
    parent_only p q c h k =
        let o = child_once_lem c (omega (arith, (child_above p c h).0)) (child_above p c h).1 in
        o.only p (child_node tree p c h) (child_in c (node_at tree p).kind h) ∙ sym (o.only q (child_node tree q c k) (child_in c (node_at tree q).kind k))

    leaf_only : (t j k : ℕ) → T (is_in t (numbers_in (node_at tree j).kind)) → T (is_in t (numbers_in (node_at tree k).kind)) → j ≡ k
    leaf_only t j k h g =
        let o = number_once t (number_below t j h) in
        o.only j (number_node tree t j h) (is_in_lem t (numbers_in (node_at tree j).kind) h) ∙ sym (o.only k (number_node tree t k g) (is_in_lem t (numbers_in (node_at tree k).kind) g))

    two_children : (p : ℕ) (test : Test) (left right : ℕ) → (node_at tree p).kind ≡ inner test left right → left ≡ right → ⊥
    unfolding children_of
    two_children p test left right e =
        let i : In left (children_of (node_at tree p).kind) = subst (λ (a : Kind). In left (children_of a)) (sym e) first in
        let h : T (has_child left (node_at tree p).kind) = in_child left (node_at tree p).kind i in
        let o = child_once_lem left (omega (arith, (child_above p left h).0)) (child_above p left h).1 in
        let q : p ≡ o.place = o.only p (child_node tree p left h) i in
        once_differ left right (subst (λ (a : Kind). times_in left (children_of a) ≡ 1) e (subst (λ (j : ℕ). times_in left (node_children (node_at tree j)) ≡ 1) (sym q) o.once))

    ends_of_child : (p c : ℕ) → T (has_child c (node_at tree p).kind) → (e : ℕ) → In e (ends (node_at tree p).segments) → In e (ends (node_at tree c).segments)
    unfolding ends_kept
    ends_of_child p c h e i =
        is_in_lem e (ends (node_at tree c).segments) (from_every (λ end. is_in end (ends (node_at tree c).segments)) (ends (node_at tree p).segments)
        (from_every (λ child. every (λ end. is_in end (ends (node_at tree child).segments)) (ends (node_at tree p).segments)) (children_of (node_at tree p).kind)
        (at_node p (child_node tree p c h)).1.1.0 (child_in c (node_at tree p).kind h)) i)

    leaf_rises : (k : ℕ) (ns : List ℕ) → (node_at tree k).kind ≡ leaf ns → Up 0 ns
    leaf_rises k ns e = by (dec_le (length tree) k)
      where
        by : Dec (length tree ≤ k) → Up 0 ns
        by (yes h) = let q : [] ≡ ns = cc (ap (λ (a : Node). a.kind) (get_or-eq_default tree empty_leaf h)) in subst (λ (l : List ℕ). Up 0 l) q u_none
        by (no f) = (leaf_of ns (at_node k (lt_of_not-le f)).1.1.1.0 e).0

    shape : Shape m.n count tree
    shape = record {
      no_trace = (same_empty (length tree) count rules.1.1.0).0;
      no_node = (same_empty (length tree) count rules.1.1.0).1;
      children = record {
        child = child_above;
        parented = λ k low high. parent_of k (child_once_lem k low high);
        one_parent = parent_only;
        children_differ = two_children;
      };
      fits = λ k h. fits_of m.n (ends (node_at tree k).segments) (at_node k h).1.0;
      ends_kept_lem = ends_of_child;
      kept = λ t h. leaf_holding t (number_once t h);
      one_leaf = leaf_only;
      numbers = number_below;
      rises = leaf_rises;
      full = λ k h ns e. (leaf_of ns (at_node k h).1.1.1.0 e).1;
    }

    limits : Limits limit m.n tree
    limits = record {
      figures = λ k h. all_limited_of limit 1 (node_at tree k).segments (at_node k h).1.1.1.1.0;
      tests = λ k test left right e. test_of limit m.n test left right
          (subst (λ (a : Kind). T (test_fits limit m.n a)) e (at_node k (inner_node tree k test left right e)).1.1.1.1.1);
    }

    pub formed : Formed limit m count tree
    formed = record { measured = rules.0; room = leb→le count m.capacity rules.1.0; shape = shape; limits = limits }

  -- what passes the test
  module _ (f : Formed limit m count tree) where
    abbrev s : Shape m.n count tree
    s = f.shape

    of_above : (k : ℕ) → T (children_above tree k (node_at tree k))
    unfolding children_above
    of_above k = every_of (λ child. ltb k child && ltb child (length tree)) (children_of (node_at tree k).kind) (λ c i. above c (s.children.child k c (in_child c (node_at tree k).kind i)))
      where
        above : (c : ℕ) → (k < c) × (c < length tree) → T (ltb k c && ltb c (length tree))
        above c h = yes_and (ltb k c) (ltb c (length tree)) (lt→ltb k c h.0) (lt→ltb c (length tree) h.1)

    of_kept : (k : ℕ) → T (ends_kept tree (node_at tree k))
    unfolding ends_kept
    of_kept k =
        every_of (λ child. every (λ end. is_in end (ends (node_at tree child).segments)) (ends (node_at tree k).segments)) (children_of (node_at tree k).kind)
        (λ c i. every_of (λ end. is_in end (ends (node_at tree c).segments)) (ends (node_at tree k).segments) (λ e j. in_is (s.ends_kept_lem k c (in_child c (node_at tree k).kind i) e j)))

    of_node : (k : ℕ) → k < length tree → T (node_fits limit m.n tree k (node_at tree k))
    unfolding node_fits
    of_node k h = passes (children_above tree k (node_at tree k)) (node_tests (node_at tree k)) (
      of_above k,
      (
        of_fits m.n (ends (node_at tree k).segments) (s.fits k h),
        (
          of_kept k,
          (
            of_leaf (node_at tree k).kind (λ ns e. (s.rises k ns e, s.full k h ns e)),
            (of_all_limited (f.limits.figures k h), of_inner limit m.n (node_at tree k).kind (f.limits.tests k)),
          ),
        ),
      ),
    )

    of_child_once : T (child_once tree)
    unfolding child_once
    of_child_once = every_of child_test (counting (length tree - 1) 1)
        (λ k i. let h = from_counting (length tree - 1) 1 i in eq→eqb (child_times s k (omega (arith, h)) (omega (arith, h))))

    of_one_leaf : T (in_one_leaf count tree)
    unfolding in_one_leaf
    of_one_leaf = yes_and (every leaf_test (counting count 0)) (every count_test (flatten (map node_numbers tree)))
        (every_of leaf_test (counting count 0) (λ t i. eq→eqb (number_times s t (omega (arith, (from_counting count 0 i).1)))))
        (every_of count_test (flatten (map node_numbers tree)) (λ t i. lt→ltb t count (numbers_below s t i)))

    of_rules : T (well_formed_tree limit m count tree)
    unfolding well_formed_tree
    of_rules = passes (in_range m) rule_tests (
      f.measured,
      (
        le→leb count m.capacity f.room,
        (
          of_same_empty (length tree) count s.no_trace s.no_node,
          (every_node_lem (node_fits limit m.n tree) 0 tree (λ k j e h. subst (λ (i : ℕ). T (node_fits limit m.n tree i (node_at tree k))) (at_0 k j e) (of_node k h)), (of_child_once, of_one_leaf)),
        ),
      ),
    )
      where
        at_0 : (k j : ℕ) → j ≡ 0 + k → k ≡ j
        at_0 k j e = omega arith

pub well_formed_lem : {limit : ℕ} {m : Measures} {count : ℕ} {tree : Tree} → Formed limit m count tree → T (well_formed_tree limit m count tree)
well_formed_lem {limit} {m} {count} {tree} f = of_rules limit m count tree f
