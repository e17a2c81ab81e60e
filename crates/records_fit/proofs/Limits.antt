-- Figures and thresholds: the definitions' tests as the code makes them, one side of a limit at a time.
use Prim.Native.Nat.{ℕ, suc, ◌+◌, ◌*◌, ◌≤◌, ◌<◌, ◌^◌}
use mathlib.Core.Path.{◌≡◌, refl, sym, subst}
use mathlib.Core.Bool.{Bool, true, false, ◌&&◌}
use mathlib.Core.List.{List, [], ◌∷◌}
use native.Mathlib.Omega.{arith}
use native.Mathlib.Nat.{mul-le-mul}
use lib.IntN.{ℤ, pos, negsuc, neg_ℤ, ◌+ℤ◌}
use lib.Signed.{le_z, le_z_yes, mag}
use lib.Dec.{T, leb, leb→le, le→leb}
use mir.Facts.{and_yes, yes_and}
use Rattle.integer.proofs.Tests.{is_true, and_all, passed, passes, test_true, test_false, same_test}
use Rattle.integer.proofs.Order.{≤ℤ→, →≤ℤ, ≤ℤ_trans, up, down, sum_parts, neg_parts}
use Rattle.segment.specs.Limits.{sample_most, sum_limit, scatter_limit, root_limit}
use Rattle.dstree.specs.Measures.{sample_limit}
use Rattle.dstree.specs.Node.{by_sum, by_scatter}
use Rattle.dstree.specs.WellFormed.{within_ℤ, segment_fits, threshold_fits}
use Rattle.tables.specs.View.{scatter_in}

-- ---- a test by what it shows

pub passing : {b : Bool} → T b → true ≡ b
passing {b} t = sym (test_true b t)

pub failing : {b : Bool} → (T b → ⊥) → false ≡ b
failing {b} f = sym (test_false b f)

-- a number that is at most another within a limit is so too
pub below_both : (a b : ℤ) (limit : ℕ) → le_z a b ≡ true → le_z b (pos limit) ≡ true → T (le_z a (pos limit))
below_both a b limit e f = (≤ℤ_trans (le_z_yes {a = a} {b = b} (is_true e)) (le_z_yes {a = b} {b = pos limit} (is_true f))).le

-- a difference of two numbers that fit
parts_width : (z : ℤ) (a b : ℕ) → up z + a ≡ down z + b → b < 2 ^ 63 → a ≤ 2 ^ 63 → mag z < 2 ^ 63
parts_width (pos n) a b e f g = omega arith
parts_width (negsuc n) a b e f g = omega arith

-- its sum with the limit fits 64 bits, and is not below 0 exactly if it is from −limit on
pub sum_fits : (v : ℤ) (limit : ℕ) → mag v < 2 ^ 63 → limit < 2 ^ 62 → T (le_z v (pos limit)) → mag (v +ℤ pos limit) < 2 ^ 63
sum_fits (pos v) limit f g t = omega (arith, leb→le v limit t, g)
sum_fits (negsuc v) limit f g t = parts_width (negsuc v +ℤ pos limit) (suc v) limit (omega (arith, sum_parts (negsuc v) (pos limit))) (omega (arith, g)) (omega (arith, f))

pub sum_sign : (v : ℤ) (limit : ℕ) → le_z (pos 0) (v +ℤ pos limit) ≡ le_z (neg_ℤ (pos limit)) v
sum_sign v limit = same_test
    (λ t. (→≤ℤ {a = neg_ℤ (pos limit)} {b = v} (omega (arith, ≤ℤ→ (le_z_yes {a = pos 0} {b = v +ℤ pos limit} t), sum_parts v (pos limit), neg_parts (pos limit)))).le)
    (λ t. (→≤ℤ {a = pos 0} {b = v +ℤ pos limit} (omega (arith, ≤ℤ→ (le_z_yes {a = neg_ℤ (pos limit)} {b = v} t), sum_parts v (pos limit), neg_parts (pos limit)))).le)

-- ---- scatters: a field that is below 0 reads as 2^63, above every limit

module _ (x : ℕ) (h : x < 2 ^ 63) where
  scatters_meant : (p q : ℤ) → T (leb (scatter_in p) (scatter_in q)) → T (leb (scatter_in q) x) → T (le_z p q) × (T (le_z (pos 0) p) × T (le_z q (pos x)))
  scatters_meant (pos p) (pos q) t u = (t, (le→leb 0 p (omega arith), u))
  scatters_meant (negsuc p) (pos q) t u = absurd (omega (arith, h, leb→le (2 ^ 63) q t, leb→le q x u))
  scatters_meant p (negsuc q) t u = absurd (omega (arith, h, leb→le (2 ^ 63) x u))

  scatters_shown : (p q : ℤ) → T (le_z p q) → T (le_z (pos 0) p) → T (le_z q (pos x)) → T (leb (scatter_in p) (scatter_in q)) × T (leb (scatter_in q) x)
  scatters_shown (pos p) (pos q) t o u = (t, u)
  scatters_shown (pos p) (negsuc q) t o u = absurd t
  scatters_shown (negsuc p) q t o u = absurd o

-- ---- the definitions, at the samples' limit

pub square_fits : (w x : ℕ) → w ≤ x → w * w ≤ x * x
square_fits w x h = mul-le-mul {n₁ = w} {m₁ = w} {n₂ = x} {m₂ = x} h h

-- a segment's figures: as least and greatest are in order, one side of each is enough
module _ (w end : ℕ) (a b p q : ℤ) where
  abbrev limit : ℕ
  limit = w * sample_most

  abbrev whole : Bool
  whole = segment_fits sample_limit w (record { end = end; least_sum = a; greatest_sum = b; least_scatter = scatter_in p; greatest_scatter = scatter_in q })

  -- the code's tests, in its order, but for the first
  abbrev tests : List Bool
  tests = le_z b (pos limit) ∷ le_z (neg_ℤ (pos limit)) a ∷ le_z (pos 0) p ∷ le_z p q ∷ le_z q (pos (limit * limit)) ∷ []

  squared : w * w * (sample_most * sample_most) ≡ limit * limit
  squared = omega arith

  module _ (h : w ≤ 256) where
    top : limit * limit < 2 ^ 63
    top = omega (arith, square_fits w 256 h)

    meant : T whole → T (and_all (le_z a b) tests)
    unfolding segment_fits sum_limit scatter_limit sample_limit within_ℤ
    meant t =
        let s = passed (le_z a b) (leb (scatter_in p) (scatter_in q) ∷ within_ℤ limit a ∷ within_ℤ limit b ∷ leb (scatter_in q) (w * w * (sample_most * sample_most)) ∷ []) t in
        let least = and_yes (le_z (neg_ℤ (pos limit)) a) (le_z a (pos limit)) s.1.1.0 in
        let greatest = and_yes (le_z (neg_ℤ (pos limit)) b) (le_z b (pos limit)) s.1.1.1.0 in
        let z = scatters_meant (limit * limit) top p q s.1.0 (subst (λ (x : ℕ). T (leb (scatter_in q) x)) squared s.1.1.1.1) in
        passes (le_z a b) tests (s.0, (greatest.1, (least.0, (z.1.0, (z.0, z.1.1)))))

    shown : T (and_all (le_z a b) tests) → T whole
    unfolding segment_fits sum_limit scatter_limit sample_limit within_ℤ
    shown t =
        let s = passed (le_z a b) tests t in
        let low = le_z_yes {a = neg_ℤ (pos limit)} {b = a} s.1.1.0 in
        let order = le_z_yes {a = a} {b = b} s.0 in
        let high = le_z_yes {a = b} {b = pos limit} s.1.0 in
        let z = scatters_shown (limit * limit) top p q s.1.1.1.1.0 s.1.1.1.0 s.1.1.1.1.1 in
        passes (le_z a b) (leb (scatter_in p) (scatter_in q) ∷ within_ℤ limit a ∷ within_ℤ limit b ∷ leb (scatter_in q) (w * w * (sample_most * sample_most)) ∷ []) (
          s.0,
          (
            z.0,
            (
              yes_and (le_z (neg_ℤ (pos limit)) a) (le_z a (pos limit)) s.1.1.0 (≤ℤ_trans order high).le,
              (
                yes_and (le_z (neg_ℤ (pos limit)) b) (le_z b (pos limit)) (≤ℤ_trans low order).le s.1.0,
                subst (λ (x : ℕ). T (leb (scatter_in q) x)) (sym squared) z.1,
              ),
            ),
          ),
        )

    pub segment_is : whole ≡ and_all (le_z a b) tests
    segment_is = same_test meant shown

pub sum_threshold : (w : ℕ) (t : ℤ) → threshold_fits sample_limit by_sum w t ≡ le_z t (pos (2 * (w * sample_most))) && le_z (neg_ℤ (pos (2 * (w * sample_most)))) t
unfolding threshold_fits within_ℤ sum_limit sample_limit
sum_threshold w t = either_way (le_z (neg_ℤ (pos (2 * (w * sample_most)))) t) (le_z t (pos (2 * (w * sample_most))))
  where
    either_way : (a b : Bool) → a && b ≡ b && a
    either_way true true = refl
    either_way true false = refl
    either_way false true = refl
    either_way false false = refl

pub scatter_threshold : (w : ℕ) (t : ℤ) → threshold_fits sample_limit by_scatter w t ≡ le_z (pos 0) t && le_z t (pos (2 * (w * sample_most)))
unfolding threshold_fits root_limit sample_limit
scatter_threshold w t = refl
