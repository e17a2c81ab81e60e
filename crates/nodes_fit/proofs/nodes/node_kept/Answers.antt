-- `nodes_fit::nodes::node_kept` meets its contract, by the kind field: a leaf has no child, and an inner node's two children decide.
use mathlib.Core.Path.{◌≡◌, sym, ap, ◌∙◌}
use mathlib.Core.Bool.{true, false}
use mathlib.Core.List.{List}
use Prim.Native.Nat.{ℕ, ◌+◌, ◌*◌, ◌≤◌, ◌<◌}
use native.Mathlib.Omega.{arith}
use lib.IntN.{ℤ}
use lib.ListN.{length}
use Rattle.tables.specs.Layout.{kind_place, first_place, segments_place, record_places}
use Rattle.tables.specs.Tables.{record_of}
use Rattle.tables.specs.View.{small_at, segments_in}
use Rattle.records_fit.specs.Fits.{head_fits, record_fits, ends_in, EndsRise, InUse}
use Rattle.records_fit.proofs.Children.{head_of, ends_rise, kind_named, left_above, right_above, record_fits_at, leaf_keeps, left_loses, right_decides}
use Rattle.nodes_fit.proofs.nodes.node_kept.Goals as goal

-- what is known of the records
module _ (nodes : List ℤ) (j : ℕ) (w : InUse j nodes) where
  abbrev m : ℕ
  m = w.m

  abbrev n : ℕ
  n = w.all.n

  abbrev r : List ℤ
  r = record_of nodes j

  fits : (x : ℕ) → x < m → record_fits n m x (record_of nodes x) ≡ true
  fits x h = record_fits_at n m nodes w.all.fit x h

  heads : head_fits n m j r ≡ true
  heads = head_of n m j r (fits j w.inside)

  rise : (x : ℕ) → x < m → EndsRise (record_of nodes x) (small_at (record_of nodes x) segments_place)
  rise x h = ends_rise n m x (record_of nodes x) (fits x h) w.all.short

  -- what `kept` asks, for a child that is one of m nodes
  askable : (child : ℕ) → child < m → (child * record_places + record_places ≤ length nodes) × (child ≤ 8191)
      × EndsRise (record_of nodes child) (small_at (record_of nodes child) segments_place) × (j * record_places + record_places ≤ length nodes) × (j ≤ 8191)
      × EndsRise (record_of nodes j) (small_at (record_of nodes j) segments_place)
  askable child h = (omega (arith, w.all.room), omega (arith, w.all.low), rise child h, omega (arith, w.all.room, w.inside), omega (arith, w.all.low, w.inside), rise j w.inside)

  named : small_at r kind_place ≤ 2
  named = kind_named n m j r heads

pub returns-then-is_leaf : goal.returns-then-is_leaf
returns-then-is_leaf c = sym (leaf_keeps c.args.nodes.now c.args.j c.if-is_leaf.ensures)

pub kept-requires : goal.kept-requires
kept-requires c =
    let nodes = c.args.nodes.now in
    let j = c.args.j in
    let inner : small_at (record_of nodes j) kind_place ≡ 0 → ⊥ = λ e. absurd (omega (arith, e, c.if-is_leaf.ensures)) in
    let w = c.requires in
    askable nodes j w c.node_small-left.result (omega (arith, c.node_small-left.ensures, (left_above w.all.n w.m j (record_of nodes j) (heads nodes j w) inner).1))

pub returns-then-not-kept : goal.returns-then-not-kept
returns-then-not-kept c =
    let nodes = c.args.nodes.now in
    let j = c.args.j in
    let r = record_of nodes j in
    let inner : small_at r kind_place ≡ 0 → ⊥ = λ e. absurd (omega (arith, e, c.if-is_leaf.ensures)) in
    let left : ends_in (segments_in (record_of nodes (small_at r first_place))) (segments_in r) ≡ false =
    sym (c.kept.ensures ∙ ap (λ (x : ℕ). ends_in (segments_in (record_of nodes x)) (segments_in r)) c.node_small-left.ensures) ∙ c.if-not-kept.true in
    sym (left_loses nodes j inner (named nodes j c.requires) left)

pub kept-requires-2 : goal.kept-requires-2
kept-requires-2 c =
    let nodes = c.args.nodes.now in
    let j = c.args.j in
    let inner : small_at (record_of nodes j) kind_place ≡ 0 → ⊥ = λ e. absurd (omega (arith, e, c.if-is_leaf.ensures)) in
    let w = c.requires in
    askable nodes j w c.node_small-right.result (omega (arith, c.node_small-right.ensures, (right_above w.all.n w.m j (record_of nodes j) (heads nodes j w) inner).1))

pub returns : goal.returns
returns c =
    let nodes = c.args.nodes.now in
    let j = c.args.j in
    let r = record_of nodes j in
    let inner : small_at r kind_place ≡ 0 → ⊥ = λ e. absurd (omega (arith, e, c.if-is_leaf.ensures)) in
    let left : ends_in (segments_in (record_of nodes (small_at r first_place))) (segments_in r) ≡ true =
    sym (c.kept.ensures ∙ ap (λ (x : ℕ). ends_in (segments_in (record_of nodes x)) (segments_in r)) c.node_small-left.ensures) ∙ c.if-not-kept.false in
    c.kept-2.ensures
    ∙ (ap (λ (x : ℕ). ends_in (segments_in (record_of nodes x)) (segments_in r)) c.node_small-right.ensures
    ∙ sym (right_decides nodes j inner (named nodes j c.requires) left))
