-- `nodes_fit::nodes::children_fit` meets its contract, by the kind field: a leaf has no child, and an inner node's two are tested
-- together.
use mathlib.Core.Path.{◌≡◌, sym, subst}
use mathlib.Core.List.{List}
use Prim.Native.Nat.{ℕ, ◌+◌, ◌*◌, ◌≤◌, ◌<◌}
use native.Mathlib.Omega.{arith}
use lib.IntN.{ℤ}
use lib.ListN.{length}
use Rattle.tables.specs.Layout.{kind_place, first_place, right_place, record_places}
use Rattle.tables.specs.Tables.{record_of}
use Rattle.tables.specs.View.{small_at}
use Rattle.records_fit.specs.Fits.{Under, HeadFits}
use Rattle.records_fit.proofs.Children.{kind_named, left_above, right_above, leaf_under, inner_under}
use Rattle.nodes_fit.proofs.nodes.children_fit.Goals as goal

module _ (nodes : List ℤ) (j : ℕ) (w : HeadFits j nodes) where
  abbrev r : List ℤ
  r = record_of nodes j

  -- a node of m has its record
  there : (x : ℕ) → x < w.m → (x * record_places + record_places ≤ length nodes) × (x ≤ 8191)
  there x h = (omega (arith, h, w.room), omega (arith, h, w.low))

  mine : (j * record_places + record_places ≤ length nodes) × (j ≤ 8191)
  mine = there j w.inside

  module _ (f : small_at r kind_place ≡ 0 → ⊥) where
    left_there : (small_at r first_place * record_places + record_places ≤ length nodes) × (small_at r first_place ≤ 8191)
    left_there = there (small_at r first_place) (left_above w.n w.m j r w.fit f).1

    right_there : (small_at r right_place * record_places + record_places ≤ length nodes) × (small_at r right_place ≤ 8191)
    right_there = there (small_at r right_place) (right_above w.n w.m j r w.fit f).1

pub returns-then-is_leaf : goal.returns-then-is_leaf
returns-then-is_leaf c e = leaf_under c.args.n c.args.nodes.now c.args.j c.if-is_leaf.ensures

pub twins_fit-requires : goal.twins_fit-requires
twins_fit-requires c =
    let nodes = c.args.nodes.now in
    let j = c.args.j in
    let inner : small_at (record_of nodes j) kind_place ≡ 0 → ⊥ = λ e. absurd (omega (arith, e, c.if-is_leaf.ensures)) in
    let P : ℕ → Type 0 = λ x. (x * record_places + record_places ≤ length nodes) × (x ≤ 8191) in
    let x = subst P (sym c.node_small.ensures) (left_there nodes j c.requires inner) in
    let y = subst P (sym c.node_small-2.ensures) (right_there nodes j c.requires inner) in
    let z = mine nodes j c.requires in
    (x.0, x.1, y.0, y.1, z.0, z.1)

pub returns : goal.returns
returns c e =
    let nodes = c.args.nodes.now in
    let j = c.args.j in
    let inner : small_at (record_of nodes j) kind_place ≡ 0 → ⊥ = λ e. absurd (omega (arith, e, c.if-is_leaf.ensures)) in
    let u = c.twins_fit.ensures e in
    let P : ℕ → Type 0 = λ x. Under c.args.n (record_of nodes x) (record_of nodes j) in
    inner_under c.args.n nodes j inner (kind_named c.requires.n c.requires.m j (record_of nodes j) c.requires.fit)
    (subst P c.node_small.ensures u.0) (subst P c.node_small-2.ensures u.1)
