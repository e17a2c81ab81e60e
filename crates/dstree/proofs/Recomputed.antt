-- The least and the greatest of some figures are one number each: records whose figures are exactly those of some traces are the segments
-- that are recomputed from these traces, and the other way round.
use Prim.Native.Nat.{ℕ, suc, ◌<◌}
use mathlib.Core.Path.{◌≡◌, refl, subst}
use mathlib.Core.List.{List, [], ◌∷◌}
use native.Mathlib.Omega.{arith}
use lib.ListN.{length, get_or}
use lib.IntN.{ℤ, pos, negsuc}
use lib.Dec.{T, eqb, eqb→eq, eqb_refl}
use Rattle.integer.specs.Words.{same_ℤ}
use Rattle.integer.proofs.Tests.{passed, passes}
use Rattle.integer.proofs.Ring.{same_ℤ_eq}
use Rattle.integer.proofs.Order.{≤ℤ_antisym}
use Rattle.integer.proofs.Lists.{In, in_map}
use Rattle.dstree.specs.Measures.{Trace}
use Rattle.dstree.specs.Figures.{Run, run}
use Rattle.dstree.specs.Node.{Segment, ends}
use Rattle.dstree.specs.Adding.{traces_of, segment_of, segments_from}
use Rattle.dstree.specs.Claims.{Extreme, ExactOn, AllExact, exact_none, exact_more}
use Rattle.dstree.specs.Checking.{same_figures, are_exact}
use Rattle.dstree.proofs.Ranges.{from_covered}
use Rattle.dstree.proofs.Exact.{exact, from_reached}

-- ---- one extreme

module _ {A : Type 0} {R : A → A → Type 0} (antisym : (a b : A) → R a b → R b a → a ≡ b) {P : ℕ → Type 0} {v : ℕ → A} {a b : A} where
  pub one_extreme : Extreme R P v a → Extreme R P v b → a ≡ b
  one_extreme x y =
      antisym a b (rw y.has (x.none_beyond y.trace y.is_one)) (rw x.has (y.none_beyond x.trace x.is_one))

-- ---- a segment by its fields

segment : ℕ → ℤ → ℤ → ℕ → ℕ → Segment
segment e a b c d = record { end = e; least_sum = a; greatest_sum = b; least_scatter = c; greatest_scatter = d }

same_segment : (s t : Segment) → s.end ≡ t.end → s.least_sum ≡ t.least_sum → s.greatest_sum ≡ t.greatest_sum
    → s.least_scatter ≡ t.least_scatter → s.greatest_scatter ≡ t.greatest_scatter → s ≡ t
unfolding segment
same_segment s t a b c d e =
    let fields : segment s.end s.least_sum s.greatest_sum s.least_scatter s.greatest_scatter
    ≡ segment t.end t.least_sum t.greatest_sum t.least_scatter t.greatest_scatter = rw (a, b, c, d, e) refl in
    fields

pub same_ℤ_refl : (a : ℤ) → T (same_ℤ a a)
same_ℤ_refl (pos a) = eqb_refl a
same_ℤ_refl (negsuc a) = eqb_refl a

pub same_figures_lem : (s t : Segment) → s.end ≡ t.end → T (same_figures s t) → s ≡ t
unfolding same_figures
same_figures_lem s t e h =
    let all = passed (same_ℤ s.least_sum t.least_sum) (same_ℤ s.greatest_sum t.greatest_sum
    ∷ eqb s.least_scatter t.least_scatter ∷ eqb s.greatest_scatter t.greatest_scatter ∷ []) h in
    same_segment s t e (same_ℤ_eq s.least_sum t.least_sum all.0) (same_ℤ_eq s.greatest_sum t.greatest_sum all.1.0)
    (eqb→eq _ _ all.1.1.0) (eqb→eq _ _ all.1.1.1)

figures_same : (s : Segment) → T (same_figures s s)
unfolding same_figures
figures_same s =
    passes (same_ℤ s.least_sum s.least_sum) (same_ℤ s.greatest_sum s.greatest_sum
    ∷ eqb s.least_scatter s.least_scatter ∷ eqb s.greatest_scatter s.greatest_scatter ∷ [])
    (same_ℤ_refl s.least_sum, (same_ℤ_refl s.greatest_sum, (eqb_refl s.least_scatter, eqb_refl s.greatest_scatter)))

-- ---- segments that pass are the recomputed ones

pub passed_is : (traces : List Trace) (from : ℕ) (l : List Segment) → T (are_exact traces from l) → l ≡ segments_from from (ends l) traces
unfolding are_exact segments_from segment_of
passed_is traces from [] t = refl
passed_is traces from (s ∷ rest) t =
    let both = passed (same_figures s (segment_of traces (run from s.end))) (are_exact traces (suc s.end) rest ∷ []) t in
    let one : s ≡ segment_of traces (run from s.end) = same_figures_lem s (segment_of traces (run from s.end)) refl both.0 in
    let more : rest ≡ segments_from (suc s.end) (ends rest) traces = passed_is traces (suc s.end) rest both.1 in
    cc

pub is_passed : (traces : List Trace) (from : ℕ) (l : List Segment) → l ≡ segments_from from (ends l) traces → T (are_exact traces from l)
unfolding are_exact segments_from
is_passed traces from [] e = tt
is_passed traces from (s ∷ rest) e =
    let one : s ≡ segment_of traces (run from s.end) = cc in
    let more : rest ≡ segments_from (suc s.end) (ends rest) traces = cc in
    passes (same_figures s (segment_of traces (run from s.end))) (are_exact traces (suc s.end) rest ∷ [])
    (subst (λ (a : Segment). T (same_figures s a)) one (figures_same s), is_passed traces (suc s.end) rest more)

-- ---- .. and have exactly the figures of these traces

module _ {P Q : ℕ → Type 0} (to : (t : ℕ) → P t → Q t) (back : (t : ℕ) → Q t → P t) where
  same_extreme : {A : Type 0} {R : A → A → Type 0} {v : ℕ → A} {a : A} → Extreme R P v a → Extreme R Q v a
  same_extreme x = record {
    trace = x.trace;
    is_one = to x.trace x.is_one;
    has = x.has;
    none_beyond = λ t q. x.none_beyond t
        (back t q);
  }

  pub same_on : {stored : List Trace} {on : Run} {s : Segment} → ExactOn stored P on s → ExactOn stored Q on s
  same_on e = record {
    least_sum_lem = same_extreme e.least_sum_lem;
    greatest_sum_lem = same_extreme e.greatest_sum_lem;
    least_scatter_lem = same_extreme e.least_scatter_lem;
    greatest_scatter_lem = same_extreme e.greatest_scatter_lem;
  }

  -- the same of the traces of P and of Q
  pub same_exact : {stored : List Trace} {from : ℕ} {l : List Segment} → AllExact stored P from l → AllExact stored Q from l
  same_exact exact_none = exact_none
  same_exact (exact_more e w) = exact_more (same_on e) (same_exact w)

-- two segments with exactly the figures of the same traces
pub one_segment : {stored : List Trace} {P : ℕ → Type 0} {on : Run} (s t : Segment) → s.end ≡ t.end → ExactOn stored P on s
    → ExactOn stored P on t → s ≡ t
one_segment s t e x y =
    same_segment s t e (one_extreme (λ a b h g. ≤ℤ_antisym h g) x.least_sum_lem y.least_sum_lem)
    (one_extreme (λ a b h g. ≤ℤ_antisym g h) x.greatest_sum_lem y.greatest_sum_lem)
    (one_extreme (λ a b h g. omega arith) x.least_scatter_lem y.least_scatter_lem)
    (one_extreme (λ a b h g. omega arith) x.greatest_scatter_lem y.greatest_scatter_lem)

module _ (stored : List Trace) (numbers : List ℕ) (one : 0 < length numbers) where
  pub recomputed : (from : ℕ) (es : List ℕ) → AllExact stored (λ t. In t numbers) from (segments_from from es (traces_of stored numbers))
  recomputed from es =
      exact stored (λ t. In t numbers) (from_reached stored numbers one from es)
      (λ t i. from_covered (get_or stored t []) from es (traces_of stored numbers) (in_map (λ (k : ℕ). get_or stored k []) i))

  pub recomputed_on : (on : Run) → ExactOn stored (λ t. In t numbers) on (segment_of (traces_of stored numbers) on)
  unfolding segments_from segment_of
  recomputed_on on = head (recomputed on.first (on.last ∷ []))
    where
      head : AllExact stored (λ t. In t numbers) on.first (segments_from on.first (on.last ∷ []) (traces_of stored numbers))
          → ExactOn stored (λ t. In t numbers) on (segment_of (traces_of stored numbers) on)
      head (exact_more e w) = e

  pub is_recomputed : {from : ℕ} {l : List Segment} → AllExact stored (λ t. In t numbers) from l
      → l ≡ segments_from from (ends l) (traces_of stored numbers)
  unfolding segments_from segment_of
  is_recomputed exact_none = refl
  is_recomputed (exact_more {first} {s} {rest} e w) =
      let here : s ≡ segment_of (traces_of stored numbers) (run first s.end) = one_segment s _ refl e
      (recomputed_on (run first s.end)) in
      let more : rest ≡ segments_from (suc s.end) (ends rest) (traces_of stored numbers) = is_recomputed w in
      cc
