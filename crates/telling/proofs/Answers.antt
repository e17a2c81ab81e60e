-- What a caller gets of a refusal, and of an answer whose values these are.
use Prim.Native.Nat.{ℕ, suc}
use mathlib.Core.Path.{◌≡◌, refl, ap}
use native.Mathlib.Omega.{arith}
use mathlib.Core.List.{List, [], ◌∷◌, ◌++◌}
use lib.ListN.{length, take, drop}
use Rattle.std.specs.Prelude.{min}
use Rattle.dstree.specs.Refusals.{Refusal, number_of, place_of}
use Rattle.dstree.specs.Book.{refusing}
use Rattle.calls.specs.Numbers.{code_of, values_of, laid}
use Rattle.telling.specs.COutcome.{returned, returned_of}

-- as many places as there are values, or as many values as there are places
pub copied_is : (values out : List ℕ) → take (min (length values) (length out)) values ++ drop (min (length values) (length out)) out ≡ laid values out
unfolding laid
copied_is [] out = let e : min 0 (length out) ≡ 0 = omega arith in rw e refl
copied_is (x ∷ values) [] = let e : min (suc (length values)) 0 ≡ 0 = omega arith in rw e refl
copied_is (x ∷ values) (place ∷ out) =
    let e : min (suc (length values)) (suc (length out)) ≡ suc (min (length values) (length out)) = omega arith in
    rw e (ap (λ (l : List ℕ). x ∷ l) (copied_is values out))

pub refusal_returned : (why : Refusal) (number place : ℕ) (out out' : List ℕ) → number ≡ number_of why → place ≡ place_of why → out' ≡ laid (place ∷ []) out
    → returned number out' ≡ returned_of (refusing why) out
unfolding returned_of code_of values_of
refusal_returned why number place out out' n p told = rw (told, n, p) refl
