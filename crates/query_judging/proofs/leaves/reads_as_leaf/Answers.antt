-- `query_judging::leaves::reads_as_leaf` meets its contract: kinds 1 and 2 are inner nodes, and every other kind reads as a leaf.
use mathlib.Core.Path.{◌≡◌, refl, sym, ap, ◌∙◌}
use mathlib.Core.List.{List, []}
use Prim.Native.Nat.{ℕ}
use native.Mathlib.Omega.{arith}
use lib.IntN.{ℤ}
use denote.Enum.Bare.{sameb}
use Rattle.dstree.specs.Matching.{is_leaf_kind}
use Rattle.tables.specs.Layout.{kind_place}
use Rattle.tables.specs.Tables.{record_of}
use Rattle.tables.specs.View.{small_at, kind_in}
use Rattle.tables.specs.Kinds.{number_of}
use Rattle.tables.specs.contracts.kinds.Kind.{the_type}
use Rattle.tables.specs.declared.kinds.Kind.{Kind}
use Rattle.tables.specs.declared.kinds.Kind.TheVariants as v
use Rattle.query_judging.proofs.Counted.{leaf_by}
use Rattle.query_judging.proofs.leaves.reads_as_leaf.Goals as goal

-- of a kind that is named
of_kind : (r : List ℤ) (kind : Kind) → sameb the_type kind v.Leaf ≡ is_leaf_kind (kind_in [] 0 r (number_of kind))
unfolding is_leaf_kind kind_in
of_kind r v.Leaf = refl
of_kind r v.BySum = refl
of_kind r v.ByScatter = refl

pub returns-in-Some : goal.returns-in-Some
returns-in-Some c =
    let r = record_of c.args.nodes.now c.args.j in
    c.eq.ensures ∙ (of_kind r c.in-Some.kind ∙ ap (λ (x : ℕ). is_leaf_kind (kind_in [] 0 r x)) (sym c.in-Some.ensures))

pub returns-in-None : goal.returns-in-None
returns-in-None c =
    let r = record_of c.args.nodes.now c.args.j in
    sym (leaf_by r (small_at r kind_place) (λ e. absurd (omega (arith, e, c.in-None.ensures))) (λ e. absurd (omega (arith, e, c.in-None.ensures))))
