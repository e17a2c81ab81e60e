-- Zeroing, for every kind of number at once: after i turns the first i places hold z, and the places behind them are as they were.
use mathlib.Core.Path.{◌≡◌, refl, ap, subst}
use mathlib.Core.List.{List, [], ◌∷◌, ◌++◌, append-nil}
use Prim.Native.Nat.{ℕ, zero, suc, ◌+◌, ◌<◌, ◌≤◌}
use native.Mathlib.Nat.{not-suc-le-zero, le_of_suc-le-suc}
use native.Mathlib.Numerals.{add-one}
use native.Mathlib.Omega.{arith}
use lib.ListN.{length, length-set, set, take, drop}
use lib.Seq.{drop-length, length-take-le}
use Rattle.tables.specs.Tables.{filled}

module _ {A : Type 0} where
  -- what holds of a loop that fills, before its turn i: s is what it has made of s₀, of which it fills the first k places
  abbrev pub Filling : ℕ → A → List A → List A → ℕ → Type 0
  Filling k z s₀ s i = (i ≤ k) × (s ≡ filled i z s₀) × (length s ≡ length s₀)

  fill_suc : (i : ℕ) (z : A) (s : List A) → i < length s → set (filled i z s) i z ≡ filled (suc i) z s
  fill_suc i z [] h = absurd (not-suc-le-zero h)
  fill_suc zero z (x ∷ s) h = refl
  fill_suc (suc i) z (x ∷ s) h = ap (λ (l : List A). z ∷ l) (fill_suc i z s (le_of_suc-le-suc h))

  fill_more : (i : ℕ) (z : A) (s : List A) → i < length s → set (filled i z s) i z ≡ filled (i + 1) z s
  fill_more i z s h = rw (add-one i) (fill_suc i z s h)

  -- a turn
  pub fill_turn : (k : ℕ) (z : A) (s₀ s : List A) (i : ℕ) → k ≤ length s₀ → i < k → Filling k z s₀ s i → Filling k z s₀ (set s i z) (i + 1)
  fill_turn k z s₀ s i room h f =
      let below : i < length s₀ = omega arith in
      (omega arith, rw f.1 (fill_more i z s₀ below), simp length-set f.2)

  -- after the last turn
  pub fill_end : (k : ℕ) (z : A) (s₀ s : List A) (i : ℕ) → k ≤ i → Filling k z s₀ s i → s ≡ filled k z s₀
  fill_end k z s₀ s i h f = let e : i ≡ k = omega arith in subst (λ (x : ℕ). s ≡ filled x z s₀) e f.1

  -- .. of a part from the first place on, before the places behind it
  pub fill_part : (k : ℕ) (z : A) (s items : List A) → k ≤ length s → items ≡ filled (length (take k s)) z (take k s)
      → items ++ drop k s ≡ filled k z s
  fill_part k z s items h e = rw (e, drop-length, append-nil, length-take-le k s h)
