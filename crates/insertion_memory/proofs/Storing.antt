-- The words of a trace pasted behind k stored ones are the next stored trace, the others stay, and so do the words behind what c traces
-- need. Its samples are within the limits, so that they come back from their words.
use Prim.Native.Nat.{ℕ, suc, ◌+◌, ◌*◌, ◌-◌, ◌≤◌, ◌<◌}
use mathlib.Core.Path.{◌≡◌, sym, ◌∙◌, ap}
use mathlib.Core.List.{List, [], ◌∷◌, ◌++◌, map, append_assoc}
use native.Mathlib.Nat.{mul-le-mul_right}
use native.Mathlib.Omega.{arith}
use lib.ListN.{length, take, drop, length-map}
use lib.Dec.{T, eqb}
use lib.Seq.{take_all, paste, length-paste, drop-paste, drop-drop}
use lib.IntN.{ℤ, pos}
use Rattle.integer.specs.Words.{counting}
use Rattle.integer.proofs.Tests.{passed}
use Rattle.integer.proofs.Lists.{from_counting, map_agree}
use Rattle.integer.proofs.Rows.{map_append, counting_more}
use Rattle.segment.specs.Stored.{word_of, samples_of, words_of}
use Rattle.dstree.specs.Measures.{Trace, sample_limit, are_samples, is_trace}
use Rattle.dstree.proofs.Limits.{trace_length}
use Rattle.tables.specs.View.{trace_in}
use Rattle.tables.proofs.Samples.{given_back}
use Rattle.tables.proofs.Frame.{with_part, part_same, part_other}
use Rattle.tables.specs.Walk.{stored_in}

pub trace_samples : (n : ℕ) (x : Trace) → T (is_trace sample_limit n x) → T (are_samples x)
unfolding is_trace
trace_samples n x t = (passed (eqb (length x) n) (are_samples x ∷ []) t).1

-- trace k is the last of k + 1 stored ones
pub stored_last : (samples : List ℤ) (n k : ℕ) (x : Trace) → trace_in samples n k ≡ x
    → stored_in samples n (suc k) ≡ stored_in samples n k ++ (x ∷ [])
stored_last samples n k x e =
    let last : trace_in samples n (0 + k) ≡ x = ap (λ (i : ℕ). trace_in samples n i) (let z : 0 + k ≡ k = omega arith in z) ∙ e in
    ap (map (trace_in samples n)) (counting_more k 0)
    ∙ map_append (trace_in samples n) (counting k 0) ((0 + k) ∷ []) ∙ ap (λ (y : Trace). stored_in samples n k ++ (y ∷ [])) last

module _ (samples : List ℤ) (n k c : ℕ) (x : Trace) (is_trace_lem : T (is_trace sample_limit n x)) (less : k < c) (room : c * n ≤ length samples) where
  abbrev words : List ℤ
  words = words_of x

  abbrev after : List ℤ
  after = paste samples (k * n) words n

  size : length words ≡ n
  size = length-map x word_of ∙ trace_length sample_limit n x is_trace_lem

  fits : (i : ℕ) → i < c → i * n + n ≤ length samples
  fits i h = let g : suc i * n ≤ c * n = mul-le-mul_right n h in omega arith

  paste_part : after ≡ with_part n samples k words
  paste_part = rw (take_all n words (omega (arith, size))) (append_assoc (take (k * n) samples) words (drop (k * n + n) samples))

  pub trace_new : trace_in after n k ≡ x
  unfolding trace_in
  trace_new =
      ap samples_of (ap (λ (l : List ℤ). take n (drop (k * n) l)) paste_part ∙ part_same (pos 0) n samples k words (fits k less) size)
      ∙ given_back x (trace_samples n x is_trace_lem)

  trace_old : (i : ℕ) → i < k → trace_in after n i ≡ trace_in samples n i
  unfolding trace_in
  trace_old i h = ap samples_of (ap (λ (l : List ℤ). take n (drop (i * n) l)) paste_part
      ∙ part_other (pos 0) n samples k words (fits k less) size i (λ e. omega (arith, h, e)) (fits i (omega arith)))

  pub stored_same : stored_in after n k ≡ stored_in samples n k
  stored_same = map_agree (trace_in after n) (trace_in samples n) (counting k 0) (λ i j. trace_old i (omega (arith, (from_counting k 0 j).1)))

  pub stored_more : stored_in after n (suc k) ≡ stored_in samples n k ++ (x ∷ [])
  stored_more = stored_last after n k x trace_new ∙ ap (λ (l : List Trace). l ++ (x ∷ [])) stored_same

  pub stored_length : length after ≡ length samples
  stored_length = length-paste samples (k * n) words n (fits k less) (omega (arith, size))

  pub stored_behind : drop (c * n) after ≡ drop (c * n) samples
  stored_behind =
      let g : suc k * n ≤ c * n = mul-le-mul_right n less in
      let m : ℕ = c * n - (k * n + n) in
      let e : c * n ≡ k * n + n + m = omega arith in
      ap (λ (j : ℕ). drop j after) e ∙ sym (drop-drop m (k * n + n) after)
      ∙ ap (λ (l : List ℤ). drop m l) (drop-paste samples (k * n) words n (omega (arith, fits k less)) (omega (arith, size)))
      ∙ drop-drop m (k * n + n) samples ∙ ap (λ (j : ℕ). drop j samples) (sym e)
