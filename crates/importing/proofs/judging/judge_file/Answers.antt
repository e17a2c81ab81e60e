-- `importing::judging::judge_file` meets its contract: the file first, then whether its traces fit beside those stored.
use Prim.Native.Nat.{ℕ, ◌≤◌}
use mathlib.Core.Path.{◌≡◌, sym, ap, ◌∙◌}
use mathlib.Core.Option.{Option}
use mathlib.Core.List.{[]}
use native.Mathlib.Omega.{arith}
use Rattle.dstree.specs.Recording.{Recording, judge_recording}
use Rattle.tables.specs.Tables.{Tables, tables, measures_of, trace_count}
use Rattle.tables.specs.Answers.{word_of}
use Rattle.recording.specs.FileTraces.{traces_found, traces_recorded}
use Rattle.importing.specs.Answered.{answer_by}
use Rattle.importing.proofs.Answers.{bad_answer, full_answer, count_answer}
use Rattle.importing.proofs.judging.judge_file.Goals as goal

module _ (j : goal.Then-capacity-k) where
  abbrev start : goal.Then-capacity-k
  start = j

  abbrev t : Tables
  t = tables start.args.control.now [] [] [] []

  abbrev file : Option Recording
  file = judge_recording (measures_of t).n start.args.bytes.now

  k_is : j.wider-k.result ≡ trace_count t
  k_is = j.wider-k.ensures ∙ j.field-3.ensures

  capacity_is : j.wider-capacity.result ≡ (measures_of t).capacity
  capacity_is = j.wider-capacity.ensures ∙ j.field-2.ensures

  n_is : j.wide-n.result ≡ (measures_of t).n
  n_is = j.wide-n.ensures ∙ j.field.ensures

  found : traces_found j.judge_recording.result ≡ traces_recorded file
  found = j.judge_recording.ensures ∙ ap (λ (k : ℕ). traces_recorded (judge_recording k start.args.bytes.now)) n_is

-- .. so many traces
module _ (k : goal.Then-capacity-k) where
  abbrev judged : goal.Then-capacity-k
  judged = k

  fits : trace_count (t judged) ≤ (measures_of (t judged)).capacity
  fits = (start judged).requires.1

module _ (j : goal.In-None) where
  abbrev start_2 : goal.In-None
  start_2 = j

  abbrev t_2 : Tables
  t_2 = tables start_2.args.control.now [] [] [] []

  abbrev file_2 : Option Recording
  file_2 = judge_recording (measures_of t_2).n start_2.args.bytes.now

  n_is_2 : j.wide-n.result ≡ (measures_of t_2).n
  n_is_2 = j.wide-n.ensures ∙ j.field.ensures

  found_2 : traces_found j.judge_recording.result ≡ traces_recorded file_2
  found_2 = j.judge_recording.ensures ∙ ap (λ (k : ℕ). traces_recorded (judge_recording k start_2.args.bytes.now)) n_is_2

module _ (j : goal.Else-capacity-k) where
  abbrev start_3 : goal.Else-capacity-k
  start_3 = j

  abbrev t_3 : Tables
  t_3 = tables start_3.args.control.now [] [] [] []

  abbrev file_3 : Option Recording
  file_3 = judge_recording (measures_of t_3).n start_3.args.bytes.now

  k_is_3 : j.wider-k.result ≡ trace_count t_3
  k_is_3 = j.wider-k.ensures ∙ j.field-3.ensures

  capacity_is_3 : j.wider-capacity.result ≡ (measures_of t_3).capacity
  capacity_is_3 = j.wider-capacity.ensures ∙ j.field-2.ensures

  n_is_3 : j.wide-n.result ≡ (measures_of t_3).n
  n_is_3 = j.wide-n.ensures ∙ j.field.ensures

  found_3 : traces_found j.judge_recording.result ≡ traces_recorded file_3
  found_3 = j.judge_recording.ensures ∙ ap (λ (k : ℕ). traces_recorded (judge_recording k start_3.args.bytes.now)) n_is_3

-- .. so many traces
module _ (k : goal.Else-capacity-k) where
  abbrev judged_2 : goal.Else-capacity-k
  judged_2 = k

  fits_2 : trace_count (t_3 judged_2) ≤ (measures_of (t_3 judged_2)).capacity
  fits_2 = (start_3 judged_2).requires.1

pub returns-then-capacity-k : goal.returns-then-capacity-k
unfolding answer_by word_of traces_found
returns-then-capacity-k c =
    let j = judged c in
    full_answer (measures_of (t j)) (trace_count (t j)) (fits c) _ (file j) (sym (ap traces_found c.in-Some.is) ∙ found j)
    (omega (arith, c.if-capacity-k.true, capacity_is j, k_is j))

pub returns-in-None : goal.returns-in-None
unfolding answer_by word_of traces_found
returns-in-None c =
    bad_answer (measures_of (t_2 c)) (trace_count (t_2 c)) (file_2 c) (sym (ap traces_found c.in-None.is) ∙ found_2 c)

pub returns-else-capacity-k : goal.returns-else-capacity-k
unfolding answer_by traces_found
returns-else-capacity-k c =
    let j = judged_2 c in
    count_answer (measures_of (t_3 j)) (trace_count (t_3 j)) (fits_2 c) _ (file_3 j) (sym (ap traces_found c.in-Some.is) ∙ found_3 j)
    (omega (arith, c.if-capacity-k.false, capacity_is_3 j, k_is_3 j))
