-- `sheet_blocks::blocks::Cursor::at_sample` meets its contract.
use mathlib.Core.Path.{◌≡◌, sym, ap, ◌∙◌, subst}
use Prim.Native.Nat.{ℕ, ◌+◌, ◌*◌, ◌-◌, ◌/◌, ◌%◌, ◌≤◌, ◌<◌}
use native.Mathlib.Nat.{div-add-mod, mod-lt, mul-le-mul_right}
use native.Mathlib.Omega.{arith}
use Rattle.sheet_blocks.proofs.blocks.Cursor.at_sample.Goals as goal

-- by how many samples a block carries
module _ (c : goal.After-block_samples-each) where
  abbrev i : ℕ
  i = c.args.i

  abbrev each : ℕ
  each = c.block_samples-each.result

  block_few : i / each ≤ i
  block_few = omega (arith, div-add-mod i each, mul-le-mul_right (i / each) c.block_samples-each.ensures.size.0)

  inside : i % each < each
  inside = mod-lt i (omega (arith, c.block_samples-each.ensures.size.0))

  counted : (1 + i / each - 1) * each + i % each ≡ i
  counted = let e : 1 + i / each - 1 ≡ i / each = omega arith in ap (λ (k : ℕ). k * each + i % each) e ∙ omega (arith, div-add-mod i each)

pub overflow_add-result : goal.overflow_add-result
overflow_add-result c = omega (arith, block_few c, c.ranges.i)

pub returns : goal.returns
returns c =
    let is = c.block_samples-each.ensures.value in
    record {
      behind_head = omega arith;
      within = subst (λ (k : ℕ). i c % each c < k) is (inside c);
      counted = ap (λ (k : ℕ). (1 + i c / each c - 1) * k + i c % each c) (sym is) ∙ counted c;
    }
