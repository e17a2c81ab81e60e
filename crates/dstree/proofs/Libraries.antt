-- What a library is, as facts: measures in range, no more traces than the capacity, n samples each, and each sample within the limit.
use Prim.Native.Nat.{ℕ, ◌≤◌, ◌<◌}
use mathlib.Core.Bool.{◌&&◌}
use mathlib.Core.List.{List, [], ◌∷◌}
use native.Mathlib.Omega.{arith}
use lib.ListN.{length}
use lib.IntN.{ℤ}
use lib.Signed.{mag}
use lib.Dec.{T, leb, ltb, eqb, leb→le, le→leb, ltb→lt, lt→ltb}
use Rattle.integer.specs.Words.{every}
use Rattle.integer.proofs.Tests.{passed, passes, eq→eqb}
use Rattle.integer.proofs.Lists.{All, all_none, all_more, all_mono, every_all, all_every}
use Rattle.dstree.specs.Measures.{Trace, Measures, within, in_range, is_trace, is_library}
use Rattle.dstree.proofs.Limits.{trace_length}
use Rattle.dstree.proofs.SheetPieces.{AllOfSize}

pub record Highest (m : Measures) : Type 0 where
  pub n_high : m.n ≤ 256
  pub capacity_high : m.capacity ≤ 4096
  pub leaf_high : m.leaf_size ≤ 64

high : (low x most : ℕ) → T (within low x most) → x ≤ most
high low x most t = leb→le x most (passed (leb low x) (leb x most ∷ []) t).1

pub highest : (m : Measures) → T (in_range m) → Highest m
unfolding in_range
highest m t =
    let all = passed (within 1 m.n 256) (within 1 m.capacity 4096 ∷ within 1 m.leaf_size 64 ∷ []) t in
    record {
      n_high = high 1 m.n 256 all.0;
      capacity_high = high 1 m.capacity 4096 all.1.0;
      leaf_high = high 1 m.leaf_size 64 all.1.1;
    }

module _ (limit : ℕ) where
  -- samples within the limit
  abbrev pub AllWithinLimit : List ℤ → Type 0
  AllWithinLimit = All (λ (z : ℤ). mag z < limit)

  pub record Library (m : Measures) (traces : List Trace) : Type 0 where
    pub measured : T (in_range m)
    pub room : length traces ≤ m.capacity
    pub even : AllOfSize m.n traces
    pub small : All AllWithinLimit traces

  module _ (n : ℕ) where
    pub trace_small : (x : Trace) → T (is_trace limit n x) → AllWithinLimit x
    unfolding is_trace
    trace_small x t = all_mono (λ z p. ltb→lt (mag z) limit p) (every_all (λ sample. ltb (mag sample) limit) x (passed (eqb (length x) n) (every (λ sample. ltb (mag sample) limit) x ∷ []) t).1)

    pub traces_are : {xs : List Trace} → AllOfSize n xs → All AllWithinLimit xs → T (every (is_trace limit n) xs)
    unfolding is_trace every
    traces_are all_none all_none = tt
    traces_are (all_more {a = x} {rest} e es) (all_more s ss) =
        passes (eqb (length x) n && every (λ sample. ltb (mag sample) limit) x) (every (is_trace limit n) rest ∷ []) (
          passes (eqb (length x) n) (every (λ sample. ltb (mag sample) limit) x ∷ [])
              (eq→eqb e, all_every (λ sample. ltb (mag sample) limit) (all_mono (λ z p. lt→ltb (mag z) limit p) s)),
          traces_are es ss,
        )

  module _ (m : Measures) (traces : List Trace) where
    pub library_of : T (is_library limit m traces) → Library m traces
    unfolding is_library
    library_of t =
        let all = passed (in_range m) (leb (length traces) m.capacity ∷ every (is_trace limit m.n) traces ∷ []) t in
        let each = every_all (is_trace limit m.n) traces all.1.1 in
        record {
          measured = all.0;
          room = leb→le (length traces) m.capacity all.1.0;
          even = all_mono (trace_length limit m.n) each;
          small = all_mono (trace_small m.n) each;
        }

    pub library_is : Library m traces → T (is_library limit m traces)
    unfolding is_library
    library_is l =
        passes (in_range m) (leb (length traces) m.capacity ∷ every (is_trace limit m.n) traces ∷ [])
        (l.measured, (le→leb (length traces) m.capacity l.room, traces_are m.n l.even l.small))

-- traces within a limit are within a wider one
pub traces_wider : (narrower limit n : ℕ) (xs : List Trace) → narrower ≤ limit → T (every (is_trace narrower n) xs) → T (every (is_trace limit n) xs)
traces_wider narrower limit n xs h t =
    let each = every_all (is_trace narrower n) xs t in
    traces_are limit n (all_mono (trace_length narrower n) each) (all_mono (λ x s. all_mono (λ z p. omega (arith, h, p)) (trace_small narrower n x s)) each)
