-- `clipping::list_possible` meets its contract: the first pass finds the limit of the second, and what that lists is what is defined
-- (`Listed`).
use Prim.Native.Nat.{ℕ}
use lib.IntN.{ℤ}
use mathlib.Core.Path.{◌≡◌, sym, ap, ap₂, ◌∙◌}
use mathlib.Core.List.{List}
use native.Mathlib.Omega.{arith}
use lib.ListN.{length}
use Rattle.dstree.specs.Measures.{Trace, measures, records_needed, work_needed}
use Rattle.dstree.specs.Clipped.{smallest_greatest, possible_matches}
use Rattle.dstree.specs.Book.{over}
use Rattle.dstree.proofs.Clipped.{listed_anywhere}
use Rattle.tables.specs.Tables.{Tables, field, measures_of, trace_count, filled}
use Rattle.tables.specs.View.{traces_in}
use Rattle.clipping.specs.Compared.{samples_only, stored_in, Comparable, those_within, Listable}
use Rattle.clipping.proofs.Listed.{written_over, listed_are}
use Rattle.clipping.proofs.list_possible.Goals as goal

-- what was read of the control record
module _ (control : List ℕ) (samples : List ℤ) (lows highs : Trace) where
  abbrev t : Tables
  t = samples_only control samples

  needed_is : (i r : ℕ) → r ≡ records_needed (measures (field control 0) i (field control 2)) → i ≡ field control 1
      → r ≡ work_needed (measures_of t)
  unfolding records_needed work_needed
  needed_is i r e f = e ∙ ap (λ (j : ℕ). records_needed (measures (field control 0) j (field control 2))) f

  module _ (n count : ℕ) (n_is : n ≡ (measures_of t).n) (count_is : count ≡ trace_count t) where
    comparable : {work list : ℕ} → Listable t lows highs work list → Comparable samples n count lows highs
    comparable r = rw (n_is, count_is) r.comparable

    -- the second pass
    all : (limit : ℕ) → limit ≡ smallest_greatest (stored_in samples n count) lows highs
        → those_within samples n count lows highs limit ≡ (possible_matches (traces_in t) lows highs).list
    unfolding traces_in
    all limit e =
        ap (those_within samples n count lows highs) e
        ∙ listed_are samples n count lows highs
        ∙ ap (λ (l : List Trace). (possible_matches l lows highs).list) (ap₂ (stored_in samples) n_is count_is)

pub records_needed-needed-requires : goal.records_needed-needed-requires
records_needed-needed-requires c = omega (arith, c.wider.ensures, c.field-3.ensures, c.requires.capacity_few)

pub smallest_greatest-limit-requires : goal.smallest_greatest-limit-requires
smallest_greatest-limit-requires c =
    let a = c.args in (
      comparable a.control.now a.samples.now a.lows.now a.highs.now c.wide-n.result c.wide-count.result (c.wide-n.ensures ∙ c.field.ensures)
          (c.wide-count.ensures ∙ c.field-2.ensures) c.requires,
      omega (arith, c.wide-count.ensures, c.field-2.ensures, c.requires.some_trace),
    )

pub fill_first-requires : goal.fill_first-requires
fill_first-requires c =
    let a = c.args in
    let control = a.control.now in
    omega (
      arith,
      needed_is control a.samples.now a.lows.now a.highs.now c.wider.result c.records_needed-needed.result
          (c.records_needed-needed.ensures (field control 0) (field control 2)) (c.wider.ensures ∙ c.field-3.ensures),
      c.requires.work_long,
    )

pub list_within-requires : goal.list_within-requires
list_within-requires c =
    let a = c.args in (
      comparable a.control.now a.samples.now a.lows.now a.highs.now c.wide-n.result c.wide-count.result (c.wide-n.ensures ∙ c.field.ensures)
          (c.wide-count.ensures ∙ c.field-2.ensures) c.requires,
      omega (arith, c.wide-count.ensures, c.field-2.ensures, c.requires.list_long),
    )

pub returns : goal.returns
returns c =
    let a = c.args in
    let control = a.control.now in
    let list = a.list.now in
    let listed = listed_anywhere (traces_in (samples_only control a.samples.now)) a.lows.now a.highs.now in
    let found = all control a.samples.now a.lows.now a.highs.now c.wide-n.result c.wide-count.result
    (c.wide-n.ensures ∙ c.field.ensures) (c.wide-count.ensures ∙ c.field-2.ensures) c.smallest_greatest-limit.result c.smallest_greatest-limit.ensures in
    record {
      value = c.list_within.ensures.value ∙ ap length found ∙ sym listed.counted;
      list = written_over _ list c.list_within.new.list c.list_within.ensures.list ∙ ap (λ (numbers : List ℕ). over numbers list) found;
      zero = c.fill_first.ensures ∙ ap (λ (i : ℕ). filled i 0 a.work.now) (needed_is control a.samples.now a.lows.now a.highs.now c.wider.result
          c.records_needed-needed.result (c.records_needed-needed.ensures (field control 0) (field control 2)) (c.wider.ensures ∙ c.field-3.ensures));
    }
