-- The parts of a list, one after another: behind a part come the parts of what is left.
use Prim.Native.Nat.{ℕ, zero, suc, min, ◌≤◌, ◌<◌}
use mathlib.Core.Path.{◌≡◌, refl, sym, ap, ap₂, ◌∙◌}
use mathlib.Core.List.{List, [], ◌∷◌, ◌++◌}
use native.Mathlib.Omega.{arith}
use lib.ListN.{length, take, drop, length-drop}
use lib.Seq.{take-append_seam, drop-append_seam}
use Rattle.std.proofs.lemmas.List.{take_min, drop_min}
use Rattle.examples.specs.Steps.{parts_by, parts}

none_of : {A : Type 0} (most n : ℕ) → parts_by {A = A} most n [] ≡ []
unfolding parts_by
none_of zero n = refl
none_of (suc most) n = refl

module _ {A : Type 0} (n : ℕ) (some : 0 < n) where
  -- how many parts it may be at most does not bear, if that is enough
  enough : (most more : ℕ) (l : List A) → length l ≤ most → length l ≤ more → parts_by most n l ≡ parts_by more n l
  unfolding parts_by
  enough zero more [] a b = sym (none_of more n)
  enough zero more (x ∷ l) a b = absurd (omega arith)
  enough (suc most) more [] a b = sym (none_of more n)
  enough (suc most) zero (x ∷ l) a b = absurd (omega arith)
  enough (suc most) (suc more) (x ∷ l) a b =
      ap (λ (rest : List (List A)). take n (x ∷ l) ∷ rest)
      (enough most more (drop n (x ∷ l)) (simp length-drop (omega arith)) (simp length-drop (omega arith)))

  first_part : (l : List A) → 0 < length l → parts n l ≡ take n l ∷ parts n (drop n l)
  unfolding parts_by
  first_part [] h = absurd (omega arith)
  first_part (x ∷ l) h =
      ap (λ (rest : List (List A)). take n (x ∷ l) ∷ rest)
      (enough (length l) (length (drop n (x ∷ l))) (drop n (x ∷ l)) (simp length-drop (omega arith)) (omega arith))

  -- a chunk, and what is left
  pub next_part : (l x rest : List A) → l ≡ x ++ rest → length x ≡ min n (length l) → 0 < length l → parts n l ≡ x ∷ parts n rest
  next_part l x rest e m h =
      first_part l h
      ∙ ap₂ (λ (a b : List A). a ∷ parts n b)
      (sym (take_min n l) ∙ (ap (λ (k : ℕ). take k l) (sym m) ∙ (ap (take (length x)) e ∙ take-append_seam x rest)))
      (sym (drop_min n l) ∙ (ap (λ (k : ℕ). drop k l) (sym m) ∙ (ap (drop (length x)) e ∙ drop-append_seam x rest)))

  pub no_part : (l : List A) → length l ≡ 0 → parts n l ≡ []
  unfolding parts_by
  no_part [] e = refl
  no_part (x ∷ l) e = absurd (omega arith)
