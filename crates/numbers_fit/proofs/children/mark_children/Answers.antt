-- `numbers_fit::children::mark_children` meets its contract, by the kind field: a leaf has no child, and an inner node's two are marked one
-- after the other.
use mathlib.Core.Path.{◌≡◌, ◌∙◌}
use mathlib.Core.List.{List, [], ◌∷◌}
use Prim.Native.Nat.{ℕ, ◌≤◌, ◌<◌}
use native.Mathlib.Omega.{arith}
use lib.IntN.{ℤ}
use Rattle.tables.specs.Layout.{kind_place, first_place, right_place}
use Rattle.tables.specs.Tables.{record_of}
use Rattle.tables.specs.View.{small_at}
use Rattle.records_fit.proofs.Children.{kind_named, left_above, right_above}
use Rattle.numbers_fit.specs.Tests.{children_at}
use Rattle.numbers_fit.proofs.Growth.{took_none, took_first, took_both, took_as}
use Rattle.numbers_fit.proofs.ByKind.{no_child, two_children}
use Rattle.records_fit.specs.Fits.{HeadFits}
use Rattle.numbers_fit.proofs.children.mark_children.Goals as goal

-- what is known of the record
module _ (nodes : List ℤ) (j : ℕ) (w : HeadFits j nodes) where
  abbrev r : List ℤ
  r = record_of nodes j

  named : small_at r kind_place ≤ 2
  named = kind_named w.n w.m j r w.fit

  module _ (f : small_at r kind_place ≡ 0 → ⊥) where
    left_low : small_at r first_place < 8192
    left_low = omega (arith, (left_above w.n w.m j r w.fit f).1, w.low)

    right_low : small_at r right_place < 8192
    right_low = omega (arith, (right_above w.n w.m j r w.fit f).1, w.low)

    -- the two children, as they were read
    read_two : {left right : ℕ} → left ≡ small_at r first_place → right ≡ small_at r right_place → children_at nodes j ≡ left ∷ (right ∷ [])
    read_two g h = two_children nodes j f named ∙ rw (g, h)

pub returns-then-is_leaf : goal.returns-then-is_leaf
returns-then-is_leaf c =
    took_as (no_child c.args.nodes.now c.args.j c.if-is_leaf.ensures) (took_none c.args.marks.now)

pub mark-requires : goal.mark-requires
mark-requires c =
    let nodes = c.args.nodes.now in
    let inner : small_at (record_of nodes c.args.j) kind_place ≡ 0 → ⊥ = λ e. absurd (omega (arith, e, c.if-is_leaf.ensures)) in
    omega (arith, c.node_small-left.ensures, left_low nodes c.args.j c.requires inner)

pub returns-then-not-mark : goal.returns-then-not-mark
returns-then-not-mark c =
    let nodes = c.args.nodes.now in
    let inner : small_at (record_of nodes c.args.j) kind_place ≡ 0 → ⊥ = λ e. absurd (omega (arith, e, c.if-is_leaf.ensures)) in
    took_as (read_two nodes c.args.j c.requires inner c.node_small-left.ensures c.node_small-right.ensures) (took_first c.node_small-right.result c.mark.ensures c.if-not-mark.true)

pub mark-requires-2 : goal.mark-requires-2
mark-requires-2 c =
    let nodes = c.args.nodes.now in
    let inner : small_at (record_of nodes c.args.j) kind_place ≡ 0 → ⊥ = λ e. absurd (omega (arith, e, c.if-is_leaf.ensures)) in
    omega (arith, c.node_small-right.ensures, right_low nodes c.args.j c.requires inner)

pub returns : goal.returns
returns c =
    let nodes = c.args.nodes.now in
    let inner : small_at (record_of nodes c.args.j) kind_place ≡ 0 → ⊥ = λ e. absurd (omega (arith, e, c.if-is_leaf.ensures)) in
    took_as (read_two nodes c.args.j c.requires inner c.node_small-left.ensures c.node_small-right.ensures)
    (took_both c.node_small-right.result c.mark.ensures c.if-not-mark.false c.mark-2.ensures)
