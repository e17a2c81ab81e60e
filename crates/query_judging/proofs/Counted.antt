-- Leaves counted record by record, and that these are the leaves of the tree that tables stand for.
use Rattle.std.specs.Prelude.{if◌then◌else◌}
use Prim.Native.Nat.{ℕ, zero, suc, ◌+◌, ◌*◌, ◌-◌, ◌≤◌, ◌<◌}
use mathlib.Core.Path.{◌≡◌, refl, ◌∙◌, ap}
use mathlib.Core.Bool.{Bool, true, false}
use mathlib.Core.List.{List, [], ◌∷◌}
use native.Mathlib.Numerals.{add-one}
use native.Mathlib.Omega.{arith}
use native.Mathlib.Nat.{mul-le-mul_right}
use lib.Dec.{T}
use lib.IntN.{ℤ}
use lib.ListN.{length}
use Rattle.integer.specs.Words.{those, counting}
use Rattle.integer.proofs.Lists.{those_agree, from_counting}
use Rattle.dstree.specs.Measures.{sample_limit}
use Rattle.dstree.proofs.Nodes.{nodes_at_most}
use Rattle.dstree.specs.Node.{node_at}
use Rattle.dstree.specs.Matching.{is_leaf_kind, leaves}
use Rattle.tables.specs.Layout.{kind_place, record_places}
use Rattle.tables.specs.Tables.{Tables, measures_of, trace_count, node_count, record_of}
use Rattle.tables.specs.View.{small_at, kind_in, tree_in, well_formed}
use Rattle.tables.proofs.Views.{tree_size, tree_kind, tree_passes, tree_formed, measures_fit}
use Rattle.query_judging.specs.LeafCount.{leaf_in, one_if, leaf_count}

-- a kind other than 1 and 2
pub leaf_by : (r : List ℤ) (v : ℕ) → (v ≡ 1 → ⊥) → (v ≡ 2 → ⊥) → is_leaf_kind (kind_in [] 0 r v) ≡ true
unfolding is_leaf_kind kind_in
leaf_by r zero a b = refl
leaf_by r (suc zero) a b = absurd (a refl)
leaf_by r (suc (suc zero)) a b = absurd (b refl)
leaf_by r (suc (suc (suc v))) a b = refl

-- the links do not bear on it
leaf_same : (links : List ℕ) (k : ℕ) (r : List ℤ) (v : ℕ) → is_leaf_kind (kind_in links k r v) ≡ is_leaf_kind (kind_in [] 0 r v)
unfolding is_leaf_kind kind_in
leaf_same links k r zero = refl
leaf_same links k r (suc zero) = refl
leaf_same links k r (suc (suc zero)) = refl
leaf_same links k r (suc (suc (suc v))) = refl

-- ---- one record more

those_first : (f : ℕ → Bool) (n a : ℕ) → length (those f (counting (suc n) a)) ≡ one_if (f a) + length (those f (counting n (suc a)))
unfolding those counting
those_first f n a = by (f a)
  where
    by : (b : Bool) → length (if b then a ∷ those f (counting n (suc a)) else those f (counting n (suc a))) ≡ one_if b + length (those f (counting n (suc a)))
    by true = omega arith
    by false = omega arith

pub count_more : (nodes : List ℤ) (m j : ℕ) → j < m → leaf_count nodes (m - j) j ≡ one_if (leaf_in nodes j) + leaf_count nodes (m - (j + 1)) (j + 1)
count_more nodes m j h =
    let e : m - j ≡ suc (m - (j + 1)) = omega arith in
    rw (e, add-one j) (those_first (leaf_in nodes) (m - suc j) j)

pub count_none : (nodes : List ℤ) (m j : ℕ) → m ≤ j → leaf_count nodes (m - j) j ≡ 0
unfolding those counting
count_none nodes m j h = let e : m - j ≡ 0 = omega arith in rw e

pub one_most : (b : Bool) → one_if b ≤ 1
one_most true = omega arith
one_most false = omega arith

-- ---- the tree's leaves

module _ (t : Tables) where
  leaf_is : (i : ℕ) → i < node_count t → is_leaf_kind (node_at (tree_in t) i).kind ≡ leaf_in t.nodes i
  leaf_is i h = ap is_leaf_kind (tree_kind t i h) ∙ leaf_same t.links (trace_count t) (record_of t.nodes i) (small_at (record_of t.nodes i) kind_place)

  pub leaves_counted : length (leaves (tree_in t)) ≡ leaf_count t.nodes (node_count t) 0
  unfolding leaves
  leaves_counted =
      ap (λ (n : ℕ). length (those (λ number. is_leaf_kind (node_at (tree_in t) number).kind) (counting n 0))) (tree_size t)
      ∙ ap length (those_agree (λ number. is_leaf_kind (node_at (tree_in t) number).kind) (leaf_in t.nodes) (counting (node_count t) 0)
      (λ i p. leaf_is i (omega (arith, from_counting (node_count t) 0 p))))

-- ---- room for all records

module _ (t : Tables) (w : T (well_formed t)) (room : (2 * (measures_of t).capacity - 1) * record_places ≤ length t.nodes) where
  most : node_count t ≤ 2 * (measures_of t).capacity - 1
  most = omega (arith, tree_size t, nodes_at_most sample_limit (measures_of t) (trace_count t) (tree_in t) (tree_passes t w), (tree_formed t w).room)

  pub records_room : node_count t * record_places ≤ length t.nodes
  records_room = omega (arith, mul-le-mul_right record_places most, room)

  pub records_few : node_count t ≤ 8192
  records_few = omega (arith, most, (measures_fit t w).capacity_high)
