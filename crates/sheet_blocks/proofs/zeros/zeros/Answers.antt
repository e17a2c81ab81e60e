-- `sheet_blocks::zeros::zeros` meets its contract: each byte of the part is compared.
use mathlib.Core.Path.{◌≡◌, refl, ap, ◌∙◌}
use mathlib.Core.Bool.{Bool, ◌&&◌}
use mathlib.Core.List.{List, [], ◌∷◌}
use Prim.Native.Nat.{ℕ, ◌-◌}
use lib.Dec.{eqb}
use borrow.Author.Rules.{rules}
use borrow.Author.Tests.{tests}
use Rattle.integer.specs.Words.{every}
use Rattle.dstree.specs.Sheet.{part, are_zero}
use Rattle.std.specs.List.{list_all}
use Rattle.std.proofs.lemmas.Iterator.{YieldsList-from_slice}
use Rattle.std.proofs.lemmas.Iterator.Search.{all_from_yields_List}
use Rattle.sheet_blocks.proofs.zeros.zeros.Goals as goal

all_zero : (bytes : List ℕ) → list_all (λ (byte : ℕ). eqb byte 0) bytes ≡ are_zero bytes
unfolding are_zero every
all_zero [] = refl
all_zero (byte ∷ bytes) = ap (λ (b : Bool). eqb byte 0 && b) (all_zero bytes)

pub returns : goal.returns
returns c =
    let a = c.args in
    let bytes = part a.from (a.to - a.from) a.bytes.now in
    all_from_yields_List {all = bytes} (λ (byte : ℕ). eqb byte 0) _ _ _ c.all.ensures.ran (YieldsList-from_slice _ cc)
    (λ x b q k. search (rules, tests))
    ∙ all_zero bytes
