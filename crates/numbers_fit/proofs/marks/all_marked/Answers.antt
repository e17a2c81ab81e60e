-- `numbers_fit::marks::all_marked` meets its contract. The loop's invariant: how many of the numbers passed are marked.
use mathlib.Core.Path.{◌≡◌, refl, subst}
use mathlib.Core.Bool.{Bool, true, false}
use mathlib.Core.List.{List}
use Prim.Native.Nat.{ℕ, ◌+◌, ◌-◌}
use native.Mathlib.Omega.{arith}
use lib.Dec.{eqb}
use borrow.Author.Tests.{eqb-true, eqb-false}
use Rattle.integer.proofs.Tests.{test_true}
use Rattle.records_fit.proofs.Limits.{failing}
use Rattle.records_fit.proofs.Loops.{all_passed, each_passes}
use Rattle.numbers_fit.specs.Tests.{marked_once}
use Rattle.numbers_fit.proofs.Growth.{Tallied}
use Rattle.numbers_fit.proofs.marks.all_marked.Invariants.{Marked, once}
use Rattle.numbers_fit.proofs.marks.all_marked.Goals as goal

-- all numbers were passed
module _ (marks : List ℕ) (first count wide marked : ℕ) (tally : Tallied (Marked marks first) marked count) (e : wide ≡ marked) where
  decides : (b : Bool) → eqb wide count ≡ b → b ≡ marked_once marks first count
  decides true f =
      let each = tally.each (omega (arith, e, eqb-true wide count f)) in
      all_passed (once marks) count first
      (λ x g h. let q : first + (x - first) ≡ x = omega arith in subst (λ (y : ℕ). once marks y ≡ true) q (each (x - first) (omega (arith, h, g))))
  decides false f =
      failing (λ y. let each = each_passes (once marks) count first (test_true (marked_once marks first count) y) in
      let passed = tally.all (λ x h. each (first + x) (omega arith) (omega (arith, h))) in
      eqb-false wide count f (omega (arith, e, passed)))

pub returns : goal.returns
returns c =
    let a = c.args in
    let all : c.loop-i.i ≡ a.count = omega arith in
    let tally = subst (λ (x : ℕ). Tallied (Marked a.marks.now a.first) c.loop-i.marked x) all c.loop-i.invariant in
    decides a.marks.now a.first a.count c.wide.result c.loop-i.marked tally c.wide.ensures (eqb c.wide.result a.count) refl
