-- `pair_search::searching::clear_work` meets its contract: as many places as records are needed.
use mathlib.Core.Path.{◌≡◌, ap, ◌∙◌}
use mathlib.Core.List.{[]}
use Prim.Native.Nat.{ℕ}
use native.Mathlib.Omega.{arith}
use Rattle.dstree.specs.Measures.{Measures, measures, records_needed, work_needed}
use Rattle.tables.specs.Tables.{measures_of, field, filled}
use Rattle.search.specs.Searched.{without_work}
use Rattle.search.proofs.Cleared.{as_many}
use Rattle.pair_search.proofs.searching.clear_work.Goals as goal

module _ (c : goal.After-fill_first-arg-1) where
  abbrev from : goal.After-fill_first-arg-1
  from = c

  abbrev measured : Measures
  measured = measures_of (without_work from.args.control.now [] [] [])

  needed_is : c.records_needed-needed.result ≡ work_needed measured
  needed_is =
      let control = from.args.control.now in
      c.records_needed-needed.ensures (field control 0) (field control 2)
      ∙ (ap (λ (i : ℕ). records_needed (measures (field control 0) i (field control 2))) (c.wider-capacity.ensures ∙ c.field.ensures)
      ∙ as_many measured)

module _ (c : goal.After-slice_known-2-1) where
  abbrev from_2 : goal.After-slice_known-2-1
  from_2 = c

  abbrev measured_2 : Measures
  measured_2 = measures_of (without_work from_2.args.control.now [] [] [])

  needed_is_2 : c.records_needed-needed.result ≡ work_needed measured_2
  needed_is_2 =
      let control = from_2.args.control.now in
      c.records_needed-needed.ensures (field control 0) (field control 2)
      ∙ (ap (λ (i : ℕ). records_needed (measures (field control 0) i (field control 2))) (c.wider-capacity.ensures ∙ c.field.ensures)
      ∙ as_many measured_2)

pub fill_first-requires : goal.fill_first-requires
fill_first-requires c = omega (arith, needed_is c, (from c).requires.1)

pub returns : goal.returns
returns c =
    c.fill_first.ensures ∙ ap (λ (i : ℕ). filled i 0 (from_2 c).args.work.now) (needed_is_2 c)
