-- `exporting::judging::recordable` meets its contract: a trace is looked at where its number is one of the stored ones.
use Prim.Native.Nat.{ℕ, ◌<◌}
use mathlib.Core.Path.{◌≡◌, sym, ap, ap₂, ◌∙◌}
use mathlib.Core.Bool.{Bool, true, ◌&&◌}
use mathlib.Core.List.{[]}
use native.Mathlib.Nat.{mul-le-mul_right}
use native.Mathlib.Omega.{arith}
use lib.ListN.{get_or}
use lib.Dec.{ltb, ltb→lt}
use mir.Facts.{and_yes}
use Rattle.integer.proofs.Tests.{is_true}
use Rattle.segment.specs.Stored.{samples_of}
use Rattle.dstree.specs.Measures.{Trace, are_within}
use Rattle.dstree.specs.Sheet.{narrow_limit}
use Rattle.dstree.specs.Recording.{rate_limit}
use Rattle.tables.specs.Tables.{Tables, tables, measures_of, trace_count}
use Rattle.tables.specs.View.{trace_in, traces_in}
use Rattle.tables.proofs.Views.{trace_at}
use Rattle.exporting.proofs.judging.recordable.Goals as goal

module _ (i : goal.Then-not-in_range) where
  abbrev start : goal.Then-not-in_range
  start = i

  abbrev t : Tables
  t = tables start.args.control.now start.args.samples.now [] [] []

  abbrev number : ℕ
  number = start.args.number

  abbrev fits : Bool
  fits = ltb start.args.rate rate_limit && ltb number (trace_count t)

  fits_is : i.in_range.result ≡ fits
  fits_is =
      i.in_range.ensures
      ∙ ap (λ (k : ℕ). ltb start.args.rate rate_limit && ltb number k) (i.wider.ensures ∙ i.field.ensures)

module _ (i : goal.After-wide-n) where
  abbrev start_2 : goal.After-wide-n
  start_2 = i

  abbrev t_2 : Tables
  t_2 = tables start_2.args.control.now start_2.args.samples.now [] [] []

  abbrev number_2 : ℕ
  number_2 = start_2.args.number

  abbrev fits_2 : Bool
  fits_2 = ltb start_2.args.rate rate_limit && ltb number_2 (trace_count t_2)

  fits_is_2 : i.in_range.result ≡ fits_2
  fits_is_2 =
      i.in_range.ensures
      ∙ ap (λ (k : ℕ). ltb start_2.args.rate rate_limit && ltb number_2 k) (i.wider.ensures ∙ i.field.ensures)

  inside_2 : i.in_range.result ≡ true → number_2 < trace_count t_2
  inside_2 e = ltb→lt number_2 (trace_count t_2) (and_yes (ltb start_2.args.rate rate_limit) (ltb number_2 (trace_count t_2)) (is_true {b = fits_2} (sym fits_is_2 ∙ e))).1

-- it is among the stored ones
module _ (w : goal.After-wide-n) where
  abbrev else : goal.After-wide-n
  else = w

  abbrev judged : goal.After-wide-n
  judged = else

  fine : judged.in_range.result ≡ true
  fine = else.if-not-in_range.false

  n_is : w.wide-n.result ≡ (measures_of (t_2 judged)).n
  n_is = w.wide-n.ensures ∙ w.field-2.ensures

module _ (i : goal.After-all_narrow) where
  abbrev start_3 : goal.After-all_narrow
  start_3 = i

  abbrev t_3 : Tables
  t_3 = tables start_3.args.control.now start_3.args.samples.now [] [] []

  abbrev number_3 : ℕ
  number_3 = start_3.args.number

  abbrev fits_3 : Bool
  fits_3 = ltb start_3.args.rate rate_limit && ltb number_3 (trace_count t_3)

  abbrev narrow_3 : Trace → Bool
  narrow_3 x = are_within narrow_limit x

  fits_is_3 : i.in_range.result ≡ fits_3
  fits_is_3 =
      i.in_range.ensures
      ∙ ap (λ (k : ℕ). ltb start_3.args.rate rate_limit && ltb number_3 k) (i.wider.ensures ∙ i.field.ensures)

  inside_3 : i.in_range.result ≡ true → number_3 < trace_count t_3
  inside_3 e = ltb→lt number_3 (trace_count t_3) (and_yes (ltb start_3.args.rate rate_limit) (ltb number_3 (trace_count t_3)) (is_true {b = fits_3} (sym fits_is_3 ∙ e))).1

-- it is among the stored ones
module _ (w : goal.After-all_narrow) where
  abbrev else_2 : goal.After-all_narrow
  else_2 = w

  abbrev judged_2 : goal.After-all_narrow
  judged_2 = else_2

  fine_2 : judged_2.in_range.result ≡ true
  fine_2 = else_2.if-not-in_range.false

  n_is_2 : w.wide-n.result ≡ (measures_of (t_3 judged_2)).n
  n_is_2 = w.wide-n.ensures ∙ w.field-2.ensures

pub returns-then-not-in_range : goal.returns-then-not-in_range
returns-then-not-in_range c = rw (sym (fits_is c) ∙ c.if-not-in_range.true)

pub trace_at-requires : goal.trace_at-requires
trace_at-requires c =
    let i = judged c in
    rw (n_is c) (omega (arith, (start_2 i).requires, mul-le-mul_right (measures_of (t_2 i)).n (inside_2 i (fine c))))

pub returns : goal.returns
returns c =
    let i = judged_2 c in
    let trace_is : samples_of c.trace_at.result.now ≡ get_or (traces_in (t_3 i)) (number_3 i) [] =
    c.trace_at.ensures ∙ (ap (λ (k : ℕ). trace_in (start_3 i).args.samples.now k (number_3 i)) (n_is_2 c) ∙ sym (trace_at (t_3 i) (number_3 i) (inside_3 i (fine_2 c)))) in
    c.all_narrow.ensures ∙ ap₂ (λ (b : Bool) (x : Trace). b && narrow_3 i x) (sym (sym (fits_is_3 i) ∙ fine_2 c)) trace_is
