-- A walk along the links meets a leaf's numbers one after another. The links rise, so that k + 1 steps are enough, and one more changes
-- nothing.
use Rattle.std.specs.Prelude.{if◌then◌else◌}
use mathlib.Core.Path.{◌≡◌, ap, ◌∙◌}
use mathlib.Core.Logic.{◌⊎◌, inl, inr}
use mathlib.Core.List.{List, [], ◌∷◌, foldl}
use Prim.Native.Nat.{ℕ, zero, suc, ◌+◌, ◌*◌, ◌≤◌, ◌<◌}
use native.Mathlib.Nat.{mul-le-mul_right}
use native.Mathlib.Omega.{arith}
use lib.ListN.{length, get_or, length-map}
use lib.IntN.{ℤ}
use lib.Dec.{ltb, eqb}
use borrow.Author.Tests.{lt-ltb, le-ltb, eq-eqb, ne_eqb}
use Rattle.integer.specs.Words.{counting}
use Rattle.integer.proofs.Lists.{In, in_nil, in_cons}
use Rattle.integer.proofs.Times.{counting_length}
use Rattle.integer.proofs.Rows.{get_or_table}
use Rattle.tables.specs.View.{trace_in, numbers_from}
use Rattle.tables.specs.Walk.{stored_in, numbers_of, Rising, behind_of, Stored}
use Rattle.tables.specs.Runs.{Inside, RunOfTrace}

-- what a walk meets from t on, which goes on while it is below k
abbrev pub met_from : List ℕ → ℕ → ℕ → List ℕ
met_from links k t = if ltb t k then numbers_of links k t else []

pub met_start : (links : List ℕ) (k t : ℕ) → t < k → met_from links k t ≡ numbers_of links k t
met_start links k t h = rw (lt-ltb t k h)

pub met_end : (links : List ℕ) (k t : ℕ) → k ≤ t → met_from links k t ≡ []
met_end links k t h = rw (le-ltb t k h)

module _ (links : List ℕ) (k : ℕ) (rising : Rising links k) where
  same_fuel : (fuel t : ℕ) → t < k → k ≤ fuel + t → numbers_from links fuel t ≡ numbers_from links (suc fuel) t
  unfolding numbers_from
  same_fuel zero t h g = absurd (omega arith)
  same_fuel (suc fuel) t h g = by (rising t h) (same_fuel fuel (get_or links t 0))
    where
      by : (get_or links t 0 ≡ 0) ⊎ ((t < get_or links t 0) × (get_or links t 0 < k))
          → (get_or links t 0 < k → k ≤ fuel + get_or links t 0 → numbers_from links fuel (get_or links t 0) ≡ numbers_from links (suc fuel) (get_or links t 0))
          → numbers_from links (suc fuel) t ≡ numbers_from links (suc (suc fuel)) t
      by (inl e) rec = rw (eq-eqb _ _ e)
      by (inr p) rec = ap (λ (l : List ℕ). t ∷ (if eqb (get_or links t 0) 0 then [] else l)) (rec p.1 (omega (arith, p.0)))

  pub behind_rises : (t : ℕ) → t < k → (t < behind_of links k t) × (behind_of links k t ≤ k)
  behind_rises t h = by (rising t h)
    where
      by : (get_or links t 0 ≡ 0) ⊎ ((t < get_or links t 0) × (get_or links t 0 < k)) → (t < behind_of links k t) × (behind_of links k t ≤ k)
      by (inl e) = rw (eq-eqb _ _ e) (h, omega arith)
      by (inr p) = rw (ne_eqb (get_or links t 0) 0 (λ e. omega (arith, p.0))) (p.0, omega (arith, p.1))

  pub met_more : (t : ℕ) → t < k → met_from links k t ≡ t ∷ met_from links k (behind_of links k t)
  unfolding numbers_from
  met_more t h = by (rising t h)
    where
      by : (get_or links t 0 ≡ 0) ⊎ ((t < get_or links t 0) × (get_or links t 0 < k)) → met_from links k t ≡ t ∷ met_from links k (behind_of links k t)
      by (inl e) = rw (lt-ltb t k h, eq-eqb _ _ e, le-ltb k k (omega arith))
      by (inr p) = rw (lt-ltb t k h, ne_eqb (get_or links t 0) 0 (λ e. omega (arith, p.0)), lt-ltb (get_or links t 0) k p.1)
          (ap (λ (l : List ℕ). t ∷ l) (same_fuel k (get_or links t 0) p.1 (omega arith)))

  -- all of a leaf's numbers are those of stored traces
  below_from : (fuel t u : ℕ) → t < k → In u (numbers_from links fuel t) → u < k
  unfolding numbers_from
  below_from zero t u h i = absurd (in_nil i)
  below_from (suc fuel) t u h i = by (in_cons i) (rising t h) (below_from fuel (get_or links t 0) u)
    where
      on : (get_or links t 0 ≡ 0) ⊎ ((t < get_or links t 0) × (get_or links t 0 < k)) → In u (if eqb (get_or links t 0) 0 then [] else numbers_from links fuel (get_or links t 0))
          → (get_or links t 0 < k → In u (numbers_from links fuel (get_or links t 0)) → u < k) → u < k
      on (inl e) j rec = absurd (in_nil (rw (eq-eqb _ _ e) at j))
      on (inr p) j rec = rec p.1 (rw (ne_eqb (get_or links t 0) 0 (λ e. omega (arith, p.0))) at j)

      by : (u ≡ t) ⊎ In u (if eqb (get_or links t 0) 0 then [] else numbers_from links fuel (get_or links t 0)) → (get_or links t 0 ≡ 0) ⊎ ((t < get_or links t 0) × (get_or links t 0 < k))
          → (get_or links t 0 < k → In u (numbers_from links fuel (get_or links t 0)) → u < k) → u < k
      by (inl e) r rec = omega arith
      by (inr j) r rec = on r j rec

  pub numbers_below : (head u : ℕ) → head < k → In u (numbers_of links k head) → u < k
  numbers_below head u h i = below_from (suc k) head u h i

-- a walk that takes each number as it meets it: what is taken at a number, and at the end
module _ {A : Type 0} (step : A → ℕ → A) (links : List ℕ) (k : ℕ) where
  pub fold_more : Rising links k → (state : A) (t : ℕ) → t < k → foldl step state (met_from links k t) ≡ foldl step (step state t) (met_from links k (behind_of links k t))
  fold_more rising state t h = ap (foldl step state) (met_more links k rising t h)

  pub fold_end : (state : A) (t : ℕ) → k ≤ t → foldl step state (met_from links k t) ≡ state
  fold_end state t h = ap (foldl step state) (met_end links k t h)

-- ---- the traces that are met

pub stored_size : (samples : List ℤ) (n k : ℕ) → length (stored_in samples n k) ≡ k
stored_size samples n k = length-map (counting k 0) (trace_in samples n) ∙ counting_length k 0

pub stored_at : (samples : List ℤ) (n k t : ℕ) → t < k → get_or (stored_in samples n k) t [] ≡ trace_in samples n t
stored_at samples n k t h = let e : 0 + t ≡ t = omega arith in get_or_table (trace_in samples n) k 0 t [] h ∙ ap (trace_in samples n) e

-- .. lie in the table whole
pub run_in : {samples : List ℤ} {links : List ℕ} {n k head first last : ℕ} → Stored samples links n k head → Inside n first last → (t : ℕ) → t < k → RunOfTrace samples n t first last
run_in {samples} {links} {n} {k} s i t h =
    let room : suc t * n ≤ k * n = mul-le-mul_right n h in
    record { narrow = s.narrow; room = omega (arith, room, s.samples_room); inside = i }
