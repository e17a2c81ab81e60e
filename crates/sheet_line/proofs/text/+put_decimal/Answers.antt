-- `sheet_line::text::put_decimal` meets its contract: as the definition has it, the digits before the last one are those of a tenth of the
-- number, which is the measure that falls.
use Prim.Native.Nat.{ℕ, ◌+◌, ◌/◌, ◌%◌}
use mathlib.Core.Path.{refl, sym, ◌∙◌, ap, ap₂}
use mathlib.Core.List.{List, [], ◌∷◌}
use native.Mathlib.Omega.{arith}
use lib.ListN.{length, set}
use lib.Seq.{sets}
use Rattle.dstree.specs.Program.{decimal}
use Rattle.sheet.proofs.Laid.{sets_append}
use Rattle.sheet_line.proofs.Digits.{one_digit, more_digits, fewer_digits}
use Rattle.sheet_line.proofs.text.+put_decimal.Goals as goal

pub bounds-out-place : goal.bounds-out-place
bounds-out-place t c = omega (arith, c.requires, ap length (one_digit c.args.v c.if-v-lt10.true))

pub returns-then-v-lt10 : goal.returns-then-v-lt10
returns-then-v-lt10 t c = rw (one_digit c.args.v c.if-v-lt10.true) (refl, refl)

pub put_decimal-last-requires : goal.put_decimal-last-requires
put_decimal-last-requires t c =
    let large = c.if-v-lt10.false in
    (omega (arith, c.decreases, large), omega (arith, c.requires, fewer_digits c.args.v large))

pub bounds-out-last : goal.bounds-out-last
bounds-out-last t c =
    let p = c.put_decimal-last in
    omega (arith, c.requires, fewer_digits c.args.v c.if-v-lt10.false, p.ensures.0, p.auto.out)

pub overflow_add-result-2 : goal.overflow_add-result-2
overflow_add-result-2 t c =
    let p = c.put_decimal-last in
    omega (arith, c.requires, fewer_digits c.args.v c.if-v-lt10.false, p.ensures.0, p.auto.out)

pub returns : goal.returns
returns t c =
    let a = c.args in
    let v = a.v in
    let large = c.if-v-lt10.false in
    let p = c.put_decimal-last in (
      omega (arith, fewer_digits v large, p.ensures.0),
      ap₂ (λ (l : List ℕ) (i : ℕ). set l i (48 + v % 10)) p.ensures.1 p.ensures.0
          ∙ sym (ap (sets a.out.now a.place) (more_digits v large) ∙ sets_append (decimal (v / 10)) ((48 + v % 10) ∷ []) a.out.now a.place),
    )
