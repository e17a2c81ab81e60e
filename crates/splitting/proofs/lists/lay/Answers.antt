-- `splitting::lists::lay` meets its contract: laying what is left of the list, from where the loop stands, makes the links of the whole.
use mathlib.Core.Path.{◌≡◌, refl, sym, ap, ap₂, ◌∙◌}
use Prim.Native.Nat.{ℕ, suc, ◌+◌, ◌-◌}
use native.Mathlib.Omega.{arith}
use native.Mathlib.Numerals.{add-one}
use lib.ListN.{length, get_or, set, drop, length-set}
use Rattle.insertion_memory.specs.Links.{linked}
use Rattle.splitting.proofs.Walks.{lay_more, lay_end}
use Rattle.splitting.proofs.lists.lay.Goals as goal

pub loop-i-init : goal.loop-i-init
loop-i-init c = (refl, refl)

pub loop-i-preserved : goal.loop-i-preserved
loop-i-preserved c =
    let l = c.loop-i in
    let order = c.args.order.now in
    let next : get_or order (l.i + 1) 0 ≡ get_or order (suc l.i) 0 = ap (λ (j : ℕ). get_or order j 0) (add-one l.i) in (
      length-set l.links c.from.result (get_or order (l.i + 1) 0) ∙ l.invariant.0,
      ap₂ (λ (x y : ℕ). linked (drop (l.i + 1) order) (set l.links x y)) c.from.ensures next
          ∙ (ap (λ (j : ℕ). linked (drop j order) (set l.links (get_or order l.i 0) (get_or order (suc l.i) 0))) (add-one l.i)
          ∙ (sym (lay_more order l.links l.i (omega (arith, c.loop-i-test.true))) ∙ l.invariant.1)),
    )

pub returns : goal.returns
returns c =
    let l = c.loop-i in
    let order = c.args.order.now in
    let at : length order - 1 ≡ l.i = omega (arith, c.loop-i-test.false, l.auto.i-end) in
    let here : c.from-2.result ≡ get_or order l.i 0 = c.from-2.ensures ∙ ap (λ (j : ℕ). get_or order j 0) at in
    ap (λ (x : ℕ). set l.links x 0) here ∙ (sym (lay_end order l.links l.i (omega (arith, at, c.requires.0))) ∙ l.invariant.1)
