-- `heap::sifting::lesser` meets its contract: the place after `left` is one more, and it is taken exactly where its key is the lesser.
use mir.Val.{bool_byte}
use mathlib.Core.Path.{◌≡◌, refl, sym, subst}
use mathlib.Core.Bool.{Bool, true, false}
use mathlib.Core.List.{List}
use Prim.Native.Nat.{ℕ, ◌+◌, ◌<◌, ◌≤◌}
use native.Mathlib.Omega.{arith}
use lib.Dec.{ltb}
use lib.ListN.{get_or}
use borrow.Author.Tests.{ltb-true, ltb-false}
use Rattle.heap.specs.Heap.{Lesser}
use Rattle.heap.proofs.sifting.lesser.Goals as goal

lesser_by : (n left : ℕ) (s : List ℕ) → left + 1 < n → (b : Bool) → ltb (get_or s (left + 1) 0) (get_or s left 0) ≡ b
    → Lesser n left s (left + bool_byte b)
lesser_by n left s h true e = record {
  low = omega arith;
  high = omega arith;
  room = omega arith;
  first = omega (arith, ltb-true (get_or s (left + 1) 0) (get_or s left 0) e);
  second = λ k. omega arith;
}
lesser_by n left s h false e =
    let z : left ≡ left + 0 = omega arith in
    subst (Lesser n left s) z
    (record {
      low = omega arith;
      high = omega arith;
      room = omega arith;
      first = omega arith;
      second = λ k. omega (arith, ltb-false (get_or s (left + 1) 0) (get_or s left 0) e);
    })

byte_few : {r : ℕ} (b : Bool) → r ≡ bool_byte b → r ≤ 1
byte_few true e = omega arith
byte_few false e = omega arith

pub overflow_add-result : goal.overflow_add-result
overflow_add-result c = omega (arith, byte_few _ c.from.ensures)

pub returns : goal.returns
returns c =
    let keys : List ℕ = c.args.s.now in
    let left : ℕ = c.args.left in
    subst (λ (r : ℕ). Lesser c.args.n left keys (left + r)) (sym c.from.ensures)
    (lesser_by c.args.n left keys (omega arith) (ltb (get_or keys (left + 1) 0) (get_or keys left 0)) refl)
