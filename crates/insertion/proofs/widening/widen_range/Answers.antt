-- `insertion::widening::widen_range` meets its contract: the first store leaves the place of the second as it was.
use mathlib.Core.Path.{◌≡◌, ap₂, ◌∙◌}
use Prim.Native.Nat.{ℕ, ◌+◌}
use native.Mathlib.Omega.{arith}
use lib.IntN.{ℤ, pos}
use lib.ListN.{get_or, set}
use lib.Seq.{get_or-set_other}
use mir.Syntax.{w64}
use mir.Facts.{to_z-of_z}
use borrow.Author.Rules.{sfits_of}
use Rattle.integer.specs.Words.{lesser, greater}
use Rattle.integer.proofs.Width.{read}
use Rattle.insertion.proofs.widening.widen_range.Goals as goal

pub returns : goal.returns
returns c =
    let r = c.args.«record».now in
    let p : ℕ = c.args.place in
    let v : ℤ = c.args.v in
    let l : read w64 c.min.result ≡ lesser (get_or r p (pos 0)) v =
    to_z-of_z (sfits_of {w = w64} {z = c.min.result} c.min.type_inv)
    ∙ c.min.ensures.value ∙ ap₂ lesser (to_z-of_z (sfits_of {w = w64} {z = get_or r p (pos 0)} c.min-arg-1.given)) (to_z-of_z c.ranges.v) in
    let high : ℤ = get_or (set r p (read w64 c.min.result)) (p + 1) (pos 0) in
    let h : read w64 c.max.result ≡ greater (get_or r (p + 1) (pos 0)) v =
    to_z-of_z (sfits_of {w = w64} {z = c.max.result} c.max.type_inv)
    ∙ c.max.ensures.value
    ∙ ap₂ greater (to_z-of_z (sfits_of {w = w64} {z = high} c.max-arg-1.given) ∙ get_or-set_other r p (p + 1) (read w64 c.min.result) (pos 0) (λ q. omega arith)) (to_z-of_z c.ranges.v) in
    ap₂ (λ (x y : ℤ). set (set r p x) (p + 1) y) l h
