-- `sheet_line::text::put_item` meets its contract.
use Prim.Native.Nat.{ℕ}
use mathlib.Core.Path.{sym, ◌∙◌, ap₂}
use mathlib.Core.List.{List, [], ◌∷◌}
use native.Mathlib.Omega.{arith}
use lib.ListN.{set, length-append}
use Rattle.dstree.specs.Program.{decimal}
use Rattle.sheet.proofs.Laid.{sets_append}
use Rattle.sheet_line.proofs.text.put_item.Goals as goal

pub put_decimal-at-requires : goal.put_decimal-at-requires
put_decimal-at-requires c = omega (arith, c.requires, length-append (decimal c.args.v) (c.args.end ∷ []))

pub bounds-out-at : goal.bounds-out-at
bounds-out-at c =
    let p = c.put_decimal-at in
    omega (arith, c.requires, length-append (decimal c.args.v) (c.args.end ∷ []), p.ensures.0, p.auto.out)

pub overflow_add-result : goal.overflow_add-result
overflow_add-result c =
    let p = c.put_decimal-at in
    omega (arith, c.requires, length-append (decimal c.args.v) (c.args.end ∷ []), p.ensures.0, p.auto.out)

pub returns : goal.returns
returns c =
    let p = c.put_decimal-at in
    let a = c.args in (
      omega (arith, length-append (decimal a.v) (a.end ∷ []), p.ensures.0),
      ap₂ (λ (l : List ℕ) (i : ℕ). set l i a.end) p.ensures.1 p.ensures.0 ∙ sym (sets_append (decimal a.v) (a.end ∷ []) a.out.now a.place),
    )
