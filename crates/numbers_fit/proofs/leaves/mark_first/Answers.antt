-- `numbers_fit::leaves::mark_first` meets its contract, by the kind field: an inner node has no number, and a leaf's first has to be a
-- trace's.
use Rattle.std.specs.Prelude.{if◌then◌else◌}
use mathlib.Core.Path.{◌≡◌, sym, ap, ◌∙◌}
use mathlib.Core.Bool.{Bool}
use mathlib.Core.List.{List, [], ◌∷◌}
use Prim.Native.Nat.{ℕ}
use native.Mathlib.Omega.{arith}
use lib.IntN.{ℤ}
use borrow.Author.Tests.{eq-eqb, ne_eqb}
use Rattle.tables.specs.Layout.{kind_place, first_place}
use Rattle.tables.specs.Tables.{record_of}
use Rattle.tables.specs.View.{small_at}
use Rattle.numbers_fit.specs.Tests.{first_at}
use Rattle.numbers_fit.proofs.Taking.{named_as, named_none, named_above, named_one}
use Rattle.numbers_fit.proofs.leaves.mark_first.Goals as goal

-- a leaf's first number, as it was read
first_is : (nodes : List ℤ) (j : ℕ) {first : ℕ} → small_at (record_of nodes j) kind_place ≡ 0 → first ≡ small_at (record_of nodes j) first_place → first_at nodes j ≡ first ∷ []
first_is nodes j z f =
    ap (λ (b : Bool). if b then small_at (record_of nodes j) first_place ∷ [] else []) (eq-eqb (small_at (record_of nodes j) kind_place) 0 z)
    ∙ ap (λ (x : ℕ). x ∷ []) (sym f)

pub returns-then-not-is_leaf : goal.returns-then-not-is_leaf
returns-then-not-is_leaf c =
    let r = record_of c.args.nodes.now c.args.j in
    let f : small_at r kind_place ≡ 0 → ⊥ = λ e. absurd (omega (arith, e, c.if-not-is_leaf.ensures)) in
    named_as (ap (λ (b : Bool). if b then small_at r first_place ∷ [] else []) (ne_eqb (small_at r kind_place) 0 f)) (named_none c.args.marks.now)

pub returns-then-k-first : goal.returns-then-k-first
returns-then-k-first c =
    named_as (first_is c.args.nodes.now c.args.j c.if-not-is_leaf.ensures c.node_small-first.ensures) (named_above c.node_small-first.result c.if-k-first.true)

pub returns : goal.returns
returns c =
    named_as (first_is c.args.nodes.now c.args.j c.if-not-is_leaf.ensures c.node_small-first.ensures)
    (named_one c.node_small-first.result (omega (arith, c.if-k-first.false)) c.mark.ensures)
