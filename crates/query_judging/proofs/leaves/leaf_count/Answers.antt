-- `query_judging::leaves::leaf_count` meets its contract: what is counted and what is still to be counted is all of it.
use mathlib.Core.Path.{◌≡◌, refl, ap, ◌∙◌}
use mathlib.Core.Bool.{Bool, true, false}
use mir.Val.{bool_byte}
use Prim.Native.Nat.{ℕ, ◌-◌, ◌<◌}
use native.Mathlib.Nat.{mul-le-mul_right}
use native.Mathlib.Omega.{arith}
use Rattle.tables.specs.Layout.{record_places}
use Rattle.query_judging.specs.LeafCount.{leaf_in, one_if, leaf_count}
use Rattle.query_judging.proofs.Counted.{count_more, count_none, one_most}
use Rattle.query_judging.proofs.leaves.leaf_count.Goals as goal

-- what is added for a record
counted : {x : ℕ} {b leaf : Bool} → x ≡ bool_byte b → b ≡ leaf → x ≡ one_if leaf
counted {b = b} e f = e ∙ (by b ∙ ap one_if f)
  where
    by : (b : Bool) → bool_byte b ≡ one_if b
    by true = refl
    by false = refl

pub loop-j-init : goal.loop-j-init
loop-j-init c =
    let a = c.args in
    let e : a.m - 0 ≡ a.m = omega arith in
    (omega arith, omega (arith, ap (λ (i : ℕ). leaf_count a.nodes.now i 0) e))

pub reads_as_leaf-requires : goal.reads_as_leaf-requires
reads_as_leaf-requires c =
    let j = c.loop-j.j in
    let h : j < c.args.m = omega (arith, c.loop-j-test.true) in
    (omega (arith, mul-le-mul_right record_places h, c.requires.0), omega (arith, h, c.requires.1))

pub overflow_add-total : goal.overflow_add-total
overflow_add-total c =
    let L = c.loop-j in
    omega (arith, L.invariant.0, c.requires.1, counted c.from-total.ensures c.reads_as_leaf.ensures, one_most (leaf_in c.args.nodes.now L.j))

pub loop-j-preserved : goal.loop-j-preserved
loop-j-preserved c =
    let L = c.loop-j in
    let h : L.j < c.args.m = omega (arith, c.loop-j-test.true) in
    let e = counted c.from-total.ensures c.reads_as_leaf.ensures in
    (omega (arith, L.invariant.0, e, one_most (leaf_in c.args.nodes.now L.j)), omega (arith, L.invariant.1, e, count_more c.args.nodes.now c.args.m L.j h))

pub returns : goal.returns
returns c =
    let L = c.loop-j in
    omega (arith, L.invariant.1, count_none c.args.nodes.now c.args.m L.j (omega arith))
