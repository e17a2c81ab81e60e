-- `sheet_blocks::blocks::Cursor::pass` meets its contract.
use mathlib.Core.Path.{◌≡◌, ap, ◌∙◌, subst}
use Prim.Native.Nat.{ℕ, suc, ◌+◌, ◌*◌, ◌-◌, ◌<◌}
use native.Mathlib.Nat.{suc-mul}
use native.Mathlib.Omega.{arith}
use Rattle.dstree.specs.SheetWidths.{format_by}
use Rattle.sheet.specs.Formats.{says_wide}
use Rattle.sheet_blocks.proofs.Places.{each_most}
use Rattle.sheet_blocks.proofs.blocks.Cursor.pass.Goals as goal

-- the first of the next block
first_of_next : (number used samples each i next behind : ℕ) → next ≡ suc number → behind ≡ 0 → 0 < number → used + samples ≡ each
    → (number - 1) * each + used ≡ i → (next - 1) * each + behind ≡ i + samples
first_of_next number used samples each i next behind e z some full at =
    let k : next - 1 ≡ suc (number - 1) = omega (arith, e, some) in
    ap (λ (a : ℕ). a * each + behind) k ∙ omega (arith, suc-mul (number - 1) each, full, at, z)

pub overflow_add-used : goal.overflow_add-used
overflow_add-used c = omega (arith, c.requires.1, (each_most (says_wide c.args.format)).1)

pub returns-then-used-block_samples : goal.returns-then-used-block_samples
returns-then-used-block_samples c = λ i h.
    let is = c.block_samples.ensures.value in
    record {
      behind_head = h.behind_head;
      within = subst (λ (k : ℕ). c.args.self.used + c.args.samples < k) is c.if-used-block_samples.true;
      counted = omega (arith, h.counted);
    }

pub returns : goal.returns
returns c = λ i h.
    let each = (format_by (says_wide c.args.format)).samples_per_block in
    let full : c.args.self.used + c.args.samples ≡ each = omega (arith, c.if-used-block_samples.false, c.block_samples.ensures.value, c.requires.1) in
    record {
      behind_head = omega (arith, c.next.ensures.0);
      within = omega (arith, c.next.ensures.1, (each_most (says_wide c.args.format)).0);
      counted = first_of_next c.args.self.number c.args.self.used c.args.samples each i c.next.result.number c.next.result.used
          c.next.ensures.0 c.next.ensures.1 h.behind_head full h.counted;
    }
