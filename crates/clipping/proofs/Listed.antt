-- What the second pass lists, with the smallest greatest distance as its limit, is what is defined.
use Prim.Native.Nat.{ℕ, ◌+◌, ◌<◌}
use mathlib.Core.Path.{◌≡◌, sym, ap, ◌∙◌}
use mathlib.Core.List.{List, [], ◌++◌}
use native.Mathlib.Omega.{arith}
use lib.IntN.{ℤ}
use lib.Dec.{leb}
use lib.ListN.{length, get_or, drop, length-map, take-append-drop}
use Rattle.integer.specs.Words.{counting, those}
use Rattle.integer.specs.Written.{Written}
use Rattle.integer.proofs.Lists.{those_agree, from_counting}
use Rattle.integer.proofs.Rows.{get_or_table}
use Rattle.integer.proofs.Times.{counting_length}
use Rattle.segment.specs.Clipped.{least_from}
use Rattle.dstree.specs.Measures.{Trace}
use Rattle.dstree.specs.Clipped.{smallest_greatest, is_listed, possible_matches}
use Rattle.dstree.specs.Book.{over}
use Rattle.tables.specs.View.{trace_in}
use Rattle.clipping.specs.Compared.{stored_in, is_within, those_within}

-- numbers at a list's beginning
pub written_over : (numbers list list' : List ℕ) → Written numbers list list' → list' ≡ over numbers list
written_over numbers list list' w =
    sym (take-append-drop (length numbers) list')
    ∙ ap (λ (l : List ℕ). l ++ drop (length numbers) list') w.are
    ∙ ap (λ (l : List ℕ). numbers ++ l) w.rest

module _ (samples : List ℤ) (n count : ℕ) (lows highs : Trace) where
  abbrev stored : List Trace
  stored = stored_in samples n count

  -- trace i of those stored
  trace_is : (i : ℕ) → i < count → trace_in samples n i ≡ get_or stored i []
  trace_is i h =
      let z : 0 + i ≡ i = omega arith in
      sym (get_or_table (trace_in samples n) count 0 i [] h ∙ ap (trace_in samples n) z)

  pub listed_are : those_within samples n count lows highs (smallest_greatest stored lows highs) ≡ (possible_matches stored lows highs).list
  unfolding possible_matches is_listed
  listed_are =
      let limit = smallest_greatest stored lows highs in
      let size : length stored ≡ count = length-map (counting count 0) (trace_in samples n) ∙ counting_length count 0 in
      those_agree (is_within samples n lows highs limit) (is_listed stored lows highs) (counting count 0)
      (λ i m. ap (λ (x : Trace). leb (least_from lows highs x) limit) (trace_is i (omega (arith, from_counting count 0 m))))
      ∙ ap (λ (k : ℕ). those (is_listed stored lows highs) (counting k 0)) (sym size)
