-- The samples that a caller gives, tested one by one; and the stored traces, which are traces whatever the words in the table are.
use Prim.Native.Nat.{ℕ, zero, suc, ◌+◌, ◌*◌, ◌≤◌, ◌<◌}
use native.Mathlib.Nat.{mul-le-mul_right}
use native.Mathlib.Omega.{arith}
use mathlib.Core.Path.{◌≡◌, refl, sym, ap, ◌∙◌}
use mathlib.Core.Bool.{Bool, true, false, not}
use mathlib.Core.List.{List, [], ◌∷◌, ◌++◌}
use lib.IntN.{ℤ, pos}
use lib.ListN.{length, get_or, take, drop}
use lib.Signed.{mag}
use lib.Dec.{T, ltb, eqb}
use borrow.Author.Tests.{lt-ltb, ltb-true}
use Rattle.integer.specs.Words.{every, counting}
use Rattle.integer.proofs.Tests.{clash, passes, is_true, test_true, eq→eqb, and_true, and_false}
use Rattle.integer.proofs.Lists.{every_of, InMap, of, from_map, from_counting}
use Rattle.segment.specs.Limits.{SamplesWithin}
use Rattle.segment.specs.Stored.{samples_of, words_of}
use Rattle.segment.proofs.Limits.{within_tail}
use Rattle.segment.proofs.Stored.{samples_within, samples_back}
use Rattle.dstree.specs.Measures.{Trace, sample_limit, are_samples, is_trace, samples_needed}
use Rattle.dstree.specs.Refusals.{◌refuses◌, spoiled}
use Rattle.tables.specs.Tables.{Tables, lent_of, measures_of, trace_count}
use Rattle.tables.specs.View.{trace_in, traces_in, well_formed, samples_inside, is_spoiled}
use Rattle.tables.specs.Judge.{lent_conditions_of}
use Rattle.tables.specs.Answers.{made_conditions}
use Rattle.tables.specs.Holds.{Long}
use Rattle.tables.proofs.Parts.{trace_length}

abbrev is_sample : ℤ → Bool
is_sample sample = ltb (mag sample) sample_limit

-- ---- the test of given samples

pub one_outside : (xs : List ℤ) (i : ℕ) → i < length xs → is_sample (get_or xs i (pos 0)) ≡ false → are_samples xs ≡ false
unfolding every
one_outside [] i l e = absurd (omega arith)
one_outside (x ∷ xs) zero l e = rw e refl
one_outside (x ∷ xs) (suc i) l e = rw (one_outside xs i (omega arith) e) (and_false (is_sample x))

pub within_samples : (xs : List ℤ) → SamplesWithin sample_limit xs → are_samples xs ≡ true
unfolding every
within_samples [] h = refl
within_samples (x ∷ xs) h = rw (lt-ltb (mag x) sample_limit (h 0 (omega arith))) (within_samples xs (within_tail x xs h))

pub samples_inside_lem : (xs : List ℤ) → are_samples xs ≡ true → SamplesWithin sample_limit xs
samples_inside_lem xs e i l = by (is_sample (get_or xs i (pos 0))) refl
  where
    by : (b : Bool) → is_sample (get_or xs i (pos 0)) ≡ b → mag (get_or xs i (pos 0)) < sample_limit
    by true f = ltb-true (mag (get_or xs i (pos 0))) sample_limit f
    by false f = clash (sym e ∙ one_outside xs i l f)

-- samples that passed the test come back from their words
pub given_back : (xs : List ℤ) → T (are_samples xs) → samples_of (words_of xs) ≡ xs
unfolding sample_limit
given_back xs t = samples_back xs (samples_inside_lem xs (test_true (are_samples xs) t))

-- ---- stored traces

-- whatever the words are, they stand for samples
pub words_are_samples : (words : List ℤ) → T (are_samples (samples_of words))
unfolding sample_limit
words_are_samples words = is_true (within_samples (samples_of words) (samples_within words))

-- "A stored sample outside the limits makes the tables spoiled": no contents have one
pub no_sample_outside : (t : Tables) → T (samples_inside t)
unfolding samples_inside traces_in trace_in
no_sample_outside t = every_of are_samples (traces_in t) (λ x i. by x (from_map (trace_in t.samples (measures_of t).n) (counting (trace_count t) 0) i))
  where
    by : (x : Trace) → InMap (trace_in t.samples (measures_of t).n) x (counting (trace_count t) 0) → T (are_samples x)
    by x (of i m e) = rw e (words_are_samples (take (measures_of t).n (drop (i * (measures_of t).n) t.samples)))

-- so the nodes alone decide
pub spoiled_is : (t : Tables) → is_spoiled t ≡ not (well_formed t)
unfolding is_spoiled
spoiled_is t = rw (test_true (samples_inside t) (no_sample_outside t)) (ap not (and_true (well_formed t)))

pub made_is : (t : Tables) → made_conditions t ≡ lent_conditions_of (lent_of t) (measures_of t) ++ not (well_formed t) refuses spoiled ∷ []
unfolding made_conditions
made_is t = ap (λ (b : Bool). lent_conditions_of (lent_of t) (measures_of t) ++ b refuses spoiled ∷ []) (spoiled_is t)

-- k traces of n samples lie one behind another
trace_long : (k n i : ℕ) → i < k → i * n + n ≤ k * n
trace_long k n i h =
    let q : suc i * n ≤ k * n = mul-le-mul_right n h in
    omega (arith, q)

stored_is : (samples : List ℤ) (k n i : ℕ) → k * n ≤ length samples → i < k → T (is_trace sample_limit n (trace_in samples n i))
unfolding is_trace trace_in
stored_is samples k n i room h =
    let size : length (trace_in samples n i) ≡ n = trace_length samples n i (omega (arith, trace_long k n i h, room)) in
    let x : Trace = samples_of (take n (drop (i * n) samples)) in
    passes (eqb (length x) n) (are_samples x ∷ []) (eq→eqb size, words_are_samples (take n (drop (i * n) samples)))

pub stored_are : (t : Tables) → Long t → trace_count t ≤ (measures_of t).capacity
    → T (every (is_trace sample_limit (measures_of t).n) (traces_in t))
unfolding traces_in samples_needed
stored_are t long room =
    let k : ℕ = trace_count t in
    let n : ℕ = (measures_of t).n in
    let most : k * n ≤ (measures_of t).capacity * n = mul-le-mul_right n room in
    every_of (is_trace sample_limit n) (traces_in t) (λ y i. by y (from_map (trace_in t.samples n) (counting k 0) i) (omega (arith, most, long.samples_long)))
  where
    by : (y : Trace) → InMap (trace_in t.samples (measures_of t).n) y (counting (trace_count t) 0)
        → trace_count t * (measures_of t).n ≤ length t.samples → T (is_trace sample_limit (measures_of t).n y)
    by y (of i m e) enough = rw e (stored_is t.samples (trace_count t) (measures_of t).n i enough (omega (arith, (from_counting (trace_count t) 0 m).1)))
