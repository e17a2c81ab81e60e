-- `sheet_judging::contents::letters_fit` meets its contract: the library compares slices as the definition compares lists.
use mathlib.Core.Path.{◌≡◌, refl, ap, ◌∙◌}
use mathlib.Core.Bool.{Bool, ◌&&◌}
use mathlib.Core.List.{List, [], ◌∷◌}
use Prim.Native.Nat.{ℕ}
use lib.Dec.{eqb}
use lib.Pointwise.{pointwise}
use Rattle.integer.specs.Words.{same}
use Rattle.dstree.specs.Sheet.{part, letters}
use Rattle.sheet_judging.proofs.contents.letters_fit.Goals as goal

same_is : (xs ys : List ℕ) → pointwise eqb xs ys ≡ same xs ys
unfolding same
same_is [] [] = refl
same_is [] (y ∷ ys) = refl
same_is (x ∷ xs) [] = refl
same_is (x ∷ xs) (y ∷ ys) = ap (λ (b : Bool). eqb x y && b) (same_is xs ys)

pub returns : goal.returns
unfolding letters
returns c = c.eq.ensures ∙ same_is (part 4 4 c.args.sheet.now) letters
