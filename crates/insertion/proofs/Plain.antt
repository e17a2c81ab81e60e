-- Numbers as a record's places hold them, and the stores of a head: what is written from place 0 on stands before the rest as it was.
use mathlib.Core.Path.{◌≡◌, sym, ap, ◌∙◌}
use mathlib.Core.List.{List, [], ◌∷◌, ◌++◌, append_assoc}
use Prim.Native.Nat.{ℕ, suc, ◌+◌, ◌^◌, ◌≤◌}
use native.Mathlib.Omega.{arith}
use lib.IntN.{ℤ, pos}
use lib.ListN.{length, get_or, set, take, drop}
use lib.Seq.{sets-eq, set-get_or, get_or-set_other}
use mir.Syntax.{w64}
use mir.Val.{SFits, to_z}
use mir.Facts.{to_z-of_z}

-- a number without a sign that is small enough to have one
pub signed : {n : ℕ} → n ≤ 2 ^ 54 → SFits w64 (pos n)
signed h = record { sfits = omega arith }

pub plain : {n : ℕ} → n ≤ 2 ^ 54 → to_z w64 n ≡ pos n
plain {n} h = to_z-of_z {w = w64} {z = pos n} (signed h)

module _ (r : List ℤ) (h : 7 ≤ length r) (k₀ k₁ k₂ k₃ k₄ k₅ k₆ : ℤ) where
  pub head_stored : set (set (set (set (set (set (set r 0 k₀) 1 k₁) 2 k₂) 3 k₃) 4 k₄) 5 k₅) 6 k₆ ≡ (k₀ ∷ k₁ ∷ k₂ ∷ k₃ ∷ k₄ ∷ k₅ ∷ k₆ ∷ []) ++ drop 7 r
  head_stored = sets-eq (k₀ ∷ k₁ ∷ k₂ ∷ k₃ ∷ k₄ ∷ k₅ ∷ k₆ ∷ []) r 0 h

-- with place 1 left as it was
module _ (r : List ℤ) (h : 7 ≤ length r) (k₀ k₂ k₃ k₄ k₅ k₆ : ℤ) where
  pub head_kept : set (set (set (set (set (set r 0 k₀) 2 k₂) 3 k₃) 4 k₄) 5 k₅) 6 k₆ ≡ (k₀ ∷ get_or r 1 (pos 0) ∷ k₂ ∷ k₃ ∷ k₄ ∷ k₅ ∷ k₆ ∷ []) ++ drop 7 r
  head_kept =
      let e : get_or (set r 0 k₀) 1 (pos 0) ≡ get_or r 1 (pos 0) = get_or-set_other r 0 1 k₀ (pos 0) (λ q. omega arith) in
      let kept : set r 0 k₀ ≡ set (set r 0 k₀) 1 (get_or r 1 (pos 0)) = sym (ap (set (set r 0 k₀) 1) (sym e) ∙ set-get_or (set r 0 k₀) 1 (pos 0)) in
      ap (λ (l : List ℤ). set (set (set (set (set l 2 k₂) 3 k₃) 4 k₄) 5 k₅) 6 k₆) kept ∙ head_stored r h k₀ (get_or r 1 (pos 0)) k₂ k₃ k₄ k₅ k₆

-- five stores one behind the other
pub segment_stored : (r : List ℤ) (p : ℕ) (k₀ k₁ k₂ k₃ k₄ : ℤ) → p + 5 ≤ length r
    → set (set (set (set (set r p k₀) (p + 1) k₁) (p + 2) k₂) (p + 3) k₃) (p + 4) k₄ ≡ take p r ++ ((k₀ ∷ k₁ ∷ k₂ ∷ k₃ ∷ k₄ ∷ []) ++ drop (p + 5) r)
segment_stored r p k₀ k₁ k₂ k₃ k₄ h =
    let f₁ : p + 1 ≡ suc p = omega arith in
    let f₂ : p + 2 ≡ suc (suc p) = omega arith in
    let f₃ : p + 3 ≡ suc (suc (suc p)) = omega arith in
    let f₄ : p + 4 ≡ suc (suc (suc (suc p))) = omega arith in
    rw (f₁, f₂, f₃, f₄) (sets-eq (k₀ ∷ k₁ ∷ k₂ ∷ k₃ ∷ k₄ ∷ []) r p h ∙ append_assoc (take p r) (k₀ ∷ k₁ ∷ k₂ ∷ k₃ ∷ k₄ ∷ []) (drop (p + 5) r))
