-- The smallest greatest distance, trace by trace: from a number on that no distance reaches.
use Prim.Native.Nat.{ℕ, zero, suc, ◌+◌, ◌*◌, ◌^◌, ◌≤◌, ◌<◌, min}
use mathlib.Core.Path.{◌≡◌, refl, sym, ap, ap₂, ◌∙◌}
use mathlib.Core.List.{List, [], ◌∷◌, ◌++◌, map, foldl, map-map, foldl-append}
use native.Mathlib.Nat.{mul-le-mul_right}
use native.Mathlib.Numerals.{add-one}
use native.Mathlib.Omega.{arith}
use lib.IntN.{ℤ}
use lib.ListN.{length, take, drop}
use Rattle.integer.specs.Words.{counting, chosen}
use Rattle.integer.proofs.Rows.{counting_more, map_append}
use Rattle.segment.specs.Limits.{sample_most, largest_distance}
use Rattle.segment.specs.Clipped.{greatest_from}
use Rattle.segment.proofs.Clipped.{clipped}
use Rattle.segment.proofs.Stored.{samples_within}
use Rattle.dstree.specs.Measures.{Trace}
use Rattle.dstree.specs.Clipped.{smallest_greatest}
use Rattle.tables.specs.View.{trace_in}
use Rattle.tables.proofs.Parts.{trace_length}
use Rattle.clipping.specs.Compared.{stored_in, Figures}

-- the place behind a trace
pub trace_room : (size n count t : ℕ) → count * n ≤ size → t < count → t * n + n ≤ size
trace_room size n count t room h = omega (arith, mul-le-mul_right n h, room)

module _ (samples : List ℤ) (n : ℕ) (lows highs : Trace) where
  abbrev greatest_at : ℕ → ℕ
  greatest_at t = greatest_from lows highs (trace_in samples n t)

  -- .. of the first t traces
  abbrev pub smallest_to : ℕ → ℕ
  smallest_to t = foldl min (2 ^ 49) (map greatest_at (counting t 0))

  pub smallest_none : smallest_to 0 ≡ 2 ^ 49
  unfolding counting
  smallest_none = refl

  pub smallest_more : (t : ℕ) → smallest_to (t + 1) ≡ min (smallest_to t) (greatest_at t)
  smallest_more t =
      let z : 0 + t ≡ t = omega arith in
      let e : counting (t + 1) 0 ≡ counting t 0 ++ (t ∷ []) =
      ap (λ (k : ℕ). counting k 0) (add-one t) ∙ counting_more t 0 ∙ ap (λ (k : ℕ). counting t 0 ++ (k ∷ [])) z in
      ap (λ (l : List ℕ). foldl min (2 ^ 49) (map greatest_at l)) e
      ∙ ap (foldl min (2 ^ 49)) (map_append greatest_at (counting t 0) (t ∷ []))
      ∙ foldl-append min (2 ^ 49) (map greatest_at (counting t 0)) (greatest_at t ∷ [])

  -- no distance reaches 2^49
  pub not_reached : Figures n lows highs → (t : ℕ) → t * n + n ≤ length samples → greatest_at t ≤ 2 ^ 49
  unfolding largest_distance trace_in
  not_reached f t room =
      let size = trace_length samples n t room in
      let most = (clipped lows highs (trace_in samples n t) (f.low_size ∙ sym f.high_size) (size ∙ sym f.low_size) f.uncrossed
      ).at_most sample_most f.lows_within f.highs_within (samples_within (take n (drop (t * n) samples))) in
      omega (arith, most, f.low_size, f.narrow)

  -- of all, if there is one
  pub smallest_all : (count : ℕ) → 0 < count → greatest_at 0 ≤ 2 ^ 49 → smallest_to count ≡ smallest_greatest (stored_in samples n count) lows highs
  unfolding counting smallest_greatest chosen
  smallest_all zero h k = absurd (omega arith)
  smallest_all (suc count) h k =
      let first : min (2 ^ 49) (greatest_at 0) ≡ greatest_at 0 = omega arith in
      ap₂ (foldl min) first (sym (map-map (greatest_from lows highs) (trace_in samples n) (counting count 1)))
