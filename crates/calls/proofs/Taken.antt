-- What an adding's own conditions leave where none of them holds: a trace of n samples within the limits, and room for it. That its samples
-- are within the limits, refusal 15 has tested, and no type says.
use Prim.Native.Nat.{ℕ, ◌≤◌, ◌<◌}
use mathlib.Core.Path.{◌≡◌}
use mathlib.Core.Bool.{not}
use mathlib.Core.Option.{none}
use mathlib.Core.List.{[], ◌∷◌}
use lib.ListN.{length}
use lib.Dec.{T, eqb}
use borrow.Author.Tests.{not-false, eqb-true, eqb-false}
use Rattle.integer.proofs.Tests.{passes, is_true, eq→eqb}
use Rattle.integer.proofs.Lists.{strict}
use Rattle.dstree.specs.Measures.{Trace, Measures, sample_limit, are_samples, is_trace}
use Rattle.dstree.specs.Refusals.{first_of, wrong_trace, sample_range, full}
use Rattle.dstree.specs.Book.{add_conditions}
use Rattle.dstree.proofs.Conditions.{none_first}

pub record Taken (m : Measures) (count : ℕ) (x : Trace) : Type 0 where
  pub size : length x ≡ m.n
  pub samples : T (are_samples x)
  pub is_trace_lem : T (is_trace sample_limit m.n x)
  -- of tables that hold no more traces than their capacity
  pub less : count ≤ m.capacity → count < m.capacity

pub taken : (m : Measures) (count : ℕ) (x : Trace) → first_of (add_conditions m count x) ≡ none → Taken m count x
unfolding is_trace
taken m count x e =
    let one = none_first (not (eqb (length x) m.n)) wrong_trace _ e in
    let two = none_first (not (are_samples x)) sample_range _ one.1 in
    let three = none_first (eqb count m.capacity) full _ two.1 in
    let size : length x ≡ m.n = eqb-true (length x) m.n (not-false _ one.0) in
    let samples : T (are_samples x) = is_true {b = are_samples x} (not-false _ two.0) in
    record {
      size = size;
      samples = samples;
      is_trace_lem = passes (eqb (length x) m.n) (are_samples x ∷ []) (eq→eqb size, samples);
      less = λ most. strict most (λ q. eqb-false count m.capacity three.0 q);
    }
