-- The part of a trace that code lends for a run is the run's samples, at most 256 of them; and a stored trace has its n samples.
use mathlib.Core.Path.{◌≡◌, sym, ap, subst, ◌∙◌}
use mathlib.Core.List.{List}
use Prim.Native.Nat.{ℕ, suc, ◌+◌, ◌*◌, ◌-◌, ◌≤◌}
use native.Mathlib.Omega.{arith}
use lib.IntN.{ℤ}
use lib.ListN.{length, take, drop, length-take, length-drop}
use lib.Seq.{length-take-le}
use Rattle.segment.specs.Stored.{samples_of}
use Rattle.segment.proofs.Stored.{samples_length, samples_take, samples_drop}
use Rattle.dstree.specs.Measures.{Trace}
use Rattle.dstree.specs.Figures.{run, samples_on}
use Rattle.tables.specs.View.{trace_in}
use Rattle.tables.specs.Runs.{RunOf, RunOfTrace}

module _ (x : Trace) {first last : ℕ} (on : RunOf (length x) first last) where
  pub part_on : take (last - (first - 1)) (drop (first - 1) x) ≡ samples_on (run first last) x
  unfolding samples_on
  part_on =
      let e : last - (first - 1) ≡ suc last - first = omega (arith, on.inside.from_1, on.inside.rises) in
      ap (λ (w : ℕ). take w (drop (first - 1) x)) e

  pub part_few : length (take (last - (first - 1)) (drop (first - 1) x)) ≤ 256
  part_few = simp (length-take, length-drop) (omega (arith, on.inside.to_n, on.narrow))

-- words from a place on stand for the samples from there on
pub part_of_words : (k from : ℕ) (words : List ℤ) → samples_of (take k (drop from words)) ≡ take k (drop from (samples_of words))
part_of_words k from words = samples_take k (drop from words) ∙ ap (take k) (samples_drop from words)

-- ---- stored traces

pub trace_length : (samples : List ℤ) (n t : ℕ) → t * n + n ≤ length samples → length (trace_in samples n t) ≡ n
unfolding trace_in
trace_length samples n t h =
    let words : List ℤ = take n (drop (t * n) samples) in
    samples_length words ∙ length-take-le n (drop (t * n) samples) (simp length-drop (omega arith))

-- the words that stand for a stored trace are n
pub words_length : (samples words : List ℤ) (n t : ℕ) → samples_of words ≡ trace_in samples n t → t * n + n ≤ length samples → length words ≡ n
words_length samples words n t e h = sym (samples_length words) ∙ ap length e ∙ trace_length samples n t h

pub run_of : {samples : List ℤ} {n t first last : ℕ} → RunOfTrace samples n t first last → RunOf (length (trace_in samples n t)) first last
run_of {samples} {n} {t} {first} {last} r =
    subst (λ (m : ℕ). RunOf m first last) (sym (trace_length samples n t r.room)) (record { narrow = r.narrow; inside = r.inside })

-- .. of the words that stand for it
pub run_of_words : (words : List ℤ) {samples : List ℤ} {n t first last : ℕ} → samples_of words ≡ trace_in samples n t → RunOfTrace samples n t first last
    → RunOf (length words) first last
run_of_words words {samples} {n} {t} {first} {last} e r =
    subst (λ (m : ℕ). RunOf m first last) (ap length (sym e) ∙ samples_length words) (run_of r)
