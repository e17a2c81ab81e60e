-- What the conditions say of the program's line: a refusal's, or that of the last trace's match among the earlier ones.
use Rattle.std.specs.Prelude.{Err, if◌then◌else◌}
use Prim.Native.Nat.{ℕ, ◌+◌, ◌*◌, ◌-◌, ◌≤◌}
use mathlib.Core.Path.{◌≡◌, refl, sym, ◌∙◌, ap}
use mathlib.Core.Bool.{Bool, true, false, ◌||◌}
use mathlib.Core.Option.{Option, none, some}
use mathlib.Core.List.{List, [], ◌++◌}
use native.Mathlib.Omega.{arith}
use native.Mathlib.Nat.{mul-le-mul}
use lib.ListN.{length, get_or, take}
use lib.Dec.{ltb, leb}
use borrow.Author.Tests.{ltb-false, leb-false}
use Rattle.integer.proofs.Tests.{neither}
use Rattle.dstree.specs.Measures.{Trace, Measures, samples_needed, records_needed, links_needed, work_needed, labels_needed}
use Rattle.dstree.specs.Labels.{Label}
use Rattle.dstree.specs.Refusals.{Refusal, Condition, first_of, short_table, empty, sheet_length}
use Rattle.dstree.specs.Sheet.{holds, judged_by}
use Rattle.dstree.specs.SheetWidths.{judge_sheet, sheet_conditions}
use Rattle.dstree.specs.Program.{Line, refusal_line, line_of, program_most, most_bytes, judged_line, program_line}
use Rattle.dstree.specs.Book.{Lent}
use Rattle.tables.specs.Answers.{found_by}
use Rattle.tables.specs.declared.Refusal.{Refusal as Word}
use Rattle.tables.specs.Judge.{LongEnough}
use Rattle.dstree.proofs.Conditions.{none_first, first_some, first_none, none_both}
use Rattle.sheet_blocks.specs.Traces.{count_of, sheet_traces, sheet_labels}
use Rattle.sheet_judging.proofs.Samples.{range, fine as good}
use Rattle.sheet_reading.proofs.Ends.{said, judged_holds}
use Rattle.sheet_reading.proofs.Library.{traces_count}
use Rattle.sheet_line.specs.Conditions.{small_conditions, program_conditions}
use Rattle.sheet_line.specs.Lines.{line_by}
use Rattle.sheet_line.specs.Stored.{Roomy}

-- a refusal's line, or another
unfoldable line_unless : Option Refusal → Line → Line
line_unless (some why) line = refusal_line why
line_unless none line = line

small_line : (m : Measures) (traces : List Trace) (labels : List Label) (count : ℕ) → length traces ≡ count
    → judged_line (holds m traces labels) ≡ line_unless (first_of (small_conditions m count)) (line_of m (take (count - 1) traces) (get_or traces (count - 1) []))
unfolding judged_line small_conditions first_of line_unless
small_line m traces labels count e =
    rw e (by (ltb program_most m.n || ltb program_most m.capacity) (leb count 1) (line_of m (take (count - 1) traces) (get_or traces (count - 1) [])))
  where
    by : (large few : Bool) (line : Line)
        → (if large then refusal_line short_table else if few then refusal_line empty else line)
        ≡ line_unless (if large then some short_table else if few then some empty else none) line
    by true few line = refl
    by false true line = refl
    by false false line = refl

module _ (bytes : List ℕ) where
  -- "Its last trace is the query, the earlier ones the library"
  abbrev pub line_of_last : ℕ → Line
  line_of_last last = line_of (said bytes) (take last (sheet_traces bytes)) (get_or (sheet_traces bytes) last [])

  -- a refusal's line, or that of the last trace
  abbrev unless : Option Refusal → Line
  unless why = line_unless why (line_of_last (count_of bytes - 1))

  abbrev small : List Condition
  small = small_conditions (said bytes) (count_of bytes)

  at_some : (why : Refusal) → first_of (sheet_conditions bytes) ≡ some why → judged_line (judge_sheet bytes) ≡ unless (first_of (sheet_conditions bytes ++ small))
  unfolding judge_sheet judged_by judged_line line_unless
  at_some why e = rw (e, first_some (sheet_conditions bytes) small why e)

  sheet_line : judged_line (judge_sheet bytes) ≡ unless (first_of (sheet_conditions bytes ++ small))
  sheet_line = by (first_of (sheet_conditions bytes)) refl
    where
      by : (o : Option Refusal) → first_of (sheet_conditions bytes) ≡ o → judged_line (judge_sheet bytes) ≡ unless (first_of (sheet_conditions bytes ++ small))
      by (some why) e = at_some why e
      by none e =
          ap judged_line (judged_holds bytes e)
          ∙ (small_line (said bytes) (sheet_traces bytes) (sheet_labels bytes) (count_of bytes) (traces_count bytes)
          ∙ ap unless (sym (first_none (sheet_conditions bytes) small e)))

  program_line_lem : program_line bytes ≡ unless (first_of (program_conditions bytes))
  unfolding program_line program_conditions first_of line_unless
  program_line_lem = by (ltb most_bytes (length bytes)) sheet_line
    where
      by : (long : Bool) → judged_line (judge_sheet bytes) ≡ unless (first_of (sheet_conditions bytes ++ small))
          → (if long then refusal_line sheet_length else judged_line (judge_sheet bytes))
          ≡ unless (if long then some sheet_length else first_of (sheet_conditions bytes ++ small))
      by true e = refl
      by false e = e

  -- what is refused
  pub refused_line : (why : Word) → found_by (Err why) ≡ first_of (program_conditions bytes) → line_by (Err why) ≡ program_line bytes
  unfolding found_by line_by line_unless
  refused_line why e = ap unless e ∙ sym program_line_lem

  -- nothing is refused
  module _ (fine : first_of (program_conditions bytes) ≡ none) where
    pub last_line : (last : ℕ) → last + 1 ≡ count_of bytes → line_of_last last ≡ program_line bytes
    unfolding line_unless
    last_line last h =
        let e : last ≡ count_of bytes - 1 = omega (arith, h) in
        ap line_of_last e ∙ sym (program_line_lem ∙ ap unless fine)

    parts : (first_of (sheet_conditions bytes) ≡ none) × (first_of small ≡ none)
    unfolding program_conditions
    parts = none_both (sheet_conditions bytes) small (none_first (ltb most_bytes (length bytes)) sheet_length _ fine).1

    pub sound : first_of (sheet_conditions bytes) ≡ none
    sound = parts.0

    abbrev large : Bool
    large = ltb program_most (said bytes).n || ltb program_most (said bytes).capacity

    neither_large : (ltb program_most (said bytes).n ≡ false) × (ltb program_most (said bytes).capacity ≡ false)
    unfolding small_conditions
    neither_large = neither (ltb program_most (said bytes).n) _ (none_first large short_table _ parts.1).0

    pub n_small : (said bytes).n ≤ program_most
    n_small = ltb-false program_most (said bytes).n neither_large.0

    pub capacity_small : (said bytes).capacity ≤ program_most
    capacity_small = ltb-false program_most (said bytes).capacity neither_large.1

    pub two_traces : 2 ≤ count_of bytes
    unfolding small_conditions
    two_traces = leb-false (count_of bytes) 1 (none_first (leb (count_of bytes) 1) empty _ (none_first large short_table _ parts.1).1).0

-- tables with room for the most that the program takes have room for what the sheet says
pub roomy : (lengths : Lent) (bytes : List ℕ) → Roomy lengths bytes → LongEnough lengths (said bytes)
unfolding samples_needed records_needed links_needed work_needed labels_needed
roomy lengths bytes r =
    let n = n_small bytes r.fine in
    let c = capacity_small bytes r.fine in
    let product : (said bytes).capacity * (said bytes).n ≤ program_most * program_most = mul-le-mul {n₁ = (said bytes).capacity} {m₁ = (said bytes).n} {n₂ = program_most} {m₂ = program_most} c n in
    record {
      range = range bytes (good bytes (sound bytes r.fine));
      room = record {
        long = record {
          control_long = r.room.long.control_long;
          samples_long = omega (arith, product, r.room.long.samples_long);
          nodes_long = omega (arith, c, r.room.long.nodes_long);
          links_long = omega (arith, c, r.room.long.links_long);
        };
        work_room = omega (arith, c, r.room.work_room);
        labels_room = omega (arith, c, r.room.labels_room);
      };
    }
