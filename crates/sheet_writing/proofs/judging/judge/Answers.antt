-- `sheet_writing::judging::judge` meets its contract: tables are judged first, then the sheet's length.
use mathlib.Core.Path.{◌≡◌, sym, ap, ap₂, ◌∙◌}
use mathlib.Core.Bool.{Bool, not}
use mathlib.Core.Option.{none}
use mathlib.Core.List.{List, [], ◌∷◌, map}
use Prim.Native.Nat.{ℕ, ◌+◌, ◌*◌, ◌≤◌, ◌<◌}
use native.Mathlib.Nat.{mul-le-mul, mul-le-mul_right}
use native.Mathlib.Omega.{arith}
use lib.ListN.{length, take}
use lib.Dec.{ltb}
use borrow.Author.Tests.{lt-ltb, le-ltb}
use Rattle.dstree.specs.Refusals as word
use Rattle.dstree.specs.Refusals.{◌refuses◌, first_of}
use Rattle.segment.specs.Stored.{samples_of}
use Rattle.dstree.specs.Measures.{most_samples, most_traces, are_within, samples_needed, labels_needed}
use Rattle.dstree.specs.Labels.{label_at}
use Rattle.dstree.specs.Sheet.{block_size, most_blocks, narrow_limit, sample_blocks_needed, label_blocks_needed, label_parts, blocks_needed_as}
use Rattle.dstree.specs.SheetWidths.{format_by, all_narrow, blocks_needed}
use Rattle.dstree.proofs.Conditions.{first_none}
use Rattle.dstree.proofs.SheetFormat.{needed_most}
use Rattle.dstree.proofs.SheetWidths.{half_by, format_sound}
use Rattle.tables.specs.Tables.{Tables, measures_of, trace_count}
use Rattle.tables.specs.View.{traces_in, labels_in}
use Rattle.tables.specs.Shared.{tables_lent}
use Rattle.tables.specs.Answers.{word_of, found_by, made_conditions}
use Rattle.tables.proofs.Judged.{Accepted, accepted}
use Rattle.tables.proofs.Passed.{passed}
use Rattle.well_formed.proofs.Refused.{refused_first}
use Rattle.insertion_memory.proofs.FromTables.{facts}
use Rattle.calls.specs.Effects.{writes}
use Rattle.sheet.specs.Formats.{says_wide}
use Rattle.sheet_writing.specs.Answered.{refusal_in, FindsFormat}
use Rattle.sheet_writing.proofs.Stored.{stored_narrow}
use Rattle.sheet_writing.proofs.Conditions.{own_need}
use Rattle.sheet_writing.proofs.judging.judge.Goals as goal

-- what is known of tables that are taken, so that the sheet's length decides: n and k as the code reads them
module _ (t : Tables) (n k : ℕ) (n_is : n ≡ (measures_of t).n) (k_is : k ≡ trace_count t) (fine : first_of (made_conditions t) ≡ none) where
  taken : Accepted t
  taken = accepted t fine

  few : k ≤ most_traces
  few = omega (arith, k_is, (facts t taken.formed).room, taken.range.capacity_high)

  narrow_n : n ≤ most_samples
  narrow_n = omega (arith, n_is, taken.range.n_high)

  total_is : k * n ≡ trace_count t * (measures_of t).n
  total_is = ap₂ (λ (x y : ℕ). x * y) k_is n_is

  total_few : k * n ≤ 1048576
  total_few = mul-le-mul {n₁ = k} {m₁ = n} {n₂ = 4096} {m₂ = 256} few narrow_n

  samples_long : k * n ≤ length t.samples
  unfolding samples_needed
  samples_long =
      let most = (facts t taken.formed).room in
      omega (arith, total_is, mul-le-mul_right (measures_of t).n most, taken.room.long.samples_long)

  labels_long : k ≤ length t.labels
  unfolding labels_needed
  labels_long = omega (arith, k_is, (facts t taken.formed).room, taken.room.labels_room)

  abbrev need : ℕ
  need = block_size * blocks_needed (measures_of t) (traces_in t) (labels_in t)

  only : (sheet : List ℕ) → first_of (writes t sheet).conditions ≡ first_of (ltb (length sheet) need refuses word.sheet_length ∷ [])
  unfolding writes
  only sheet = first_none (made_conditions t) (ltb (length sheet) need refuses word.sheet_length ∷ []) fine

  -- once the format and both numbers are known
  module _ (four : Bool) (wide_is : four ≡ not (are_within narrow_limit (samples_of (take (k * n) t.samples)))) (sample_blocks label_blocks : ℕ)
      (samples_are : sample_blocks ≡ sample_blocks_needed (format_by four) k n)
      (labels_are : label_blocks ≡ length (label_parts (map label_at (take k t.labels)))) where
    own : four ≡ not (all_narrow (traces_in t))
    own = wide_is ∙ ap (λ (i : ℕ). not (are_within narrow_limit (samples_of (take i t.samples)))) total_is ∙ ap not (sym (stored_narrow t))

    samples_need : sample_blocks ≡ sample_blocks_needed (format_by four) (trace_count t) (measures_of t).n
    samples_need = samples_are ∙ ap₂ (sample_blocks_needed (format_by four)) k_is n_is

    labels_need : label_blocks ≡ length (label_parts (labels_in t))
    unfolding labels_in
    labels_need = labels_are ∙ ap (λ (i : ℕ). length (label_parts (map label_at (take i t.labels)))) k_is

    -- the bytes that the code compares with are those needed
    need_is : block_size * (1 + sample_blocks + label_blocks) ≡ need
    unfolding blocks_needed_as
    need_is = omega (arith, samples_need, labels_need, own_need t four own)

-- both numbers are small
small : (four : Bool) (k sample_blocks label_blocks : ℕ) → k ≤ most_traces → sample_blocks < most_blocks → label_blocks ≤ label_blocks_needed k
    → sample_blocks + label_blocks ≤ 2 * most_blocks
small four k sample_blocks label_blocks few samples labels =
    omega (arith, samples, labels, needed_most (format_by four) (half_by four) (format_sound four) k 0 few (omega arith))

pub overflow_mul-k : goal.overflow_mul-k
unfolding found_by
overflow_mul-k c =
    omega (arith, total_few (tables_lent c.args.lent) _ _ (c.wide-n.ensures ∙ c.field.ensures) (c.wide-k.ensures ∙ c.field-2.ensures) (sym c.in_ok-judge_tables.ensures))

pub format_of-format-requires : goal.format_of-format-requires
unfolding found_by
format_of-format-requires c =
    samples_long (tables_lent c.args.lent) _ _ (c.wide-n.ensures ∙ c.field.ensures) (c.wide-k.ensures ∙ c.field-2.ensures) (sym c.in_ok-judge_tables.ensures)

pub sample_blocks-requires : goal.sample_blocks-requires
unfolding found_by
sample_blocks-requires c =
    let t = tables_lent c.args.lent in
    let n_is = c.wide-n.ensures ∙ c.field.ensures in
    let k_is = c.wide-k.ensures ∙ c.field-2.ensures in
    (few t _ _ n_is k_is (sym c.in_ok-judge_tables.ensures), narrow_n t _ _ n_is k_is (sym c.in_ok-judge_tables.ensures))

pub overflow_add-blocks : goal.overflow_add-blocks
overflow_add-blocks c = omega (arith, c.sample_blocks.ensures.1)

pub label_blocks-requires : goal.label_blocks-requires
unfolding found_by
label_blocks-requires c =
    let t = tables_lent c.args.lent in
    let n_is = c.wide-n.ensures ∙ c.field.ensures in
    let k_is = c.wide-k.ensures ∙ c.field-2.ensures in
    (labels_long t _ _ n_is k_is (sym c.in_ok-judge_tables.ensures), few t _ _ n_is k_is (sym c.in_ok-judge_tables.ensures))

pub overflow_add-blocks-2 : goal.overflow_add-blocks-2
unfolding found_by
overflow_add-blocks-2 c =
    let k_few = few (tables_lent c.args.lent) _ _ (c.wide-n.ensures ∙ c.field.ensures) (c.wide-k.ensures ∙ c.field-2.ensures) (sym c.in_ok-judge_tables.ensures) in
    omega (arith, small (says_wide c.format_of-format.result) _ _ _ k_few c.sample_blocks.ensures.1 c.label_blocks.ensures.1)

pub overflow_mul-blocks : goal.overflow_mul-blocks
unfolding found_by
overflow_mul-blocks c =
    let k_few = few (tables_lent c.args.lent) _ _ (c.wide-n.ensures ∙ c.field.ensures) (c.wide-k.ensures ∙ c.field-2.ensures) (sym c.in_ok-judge_tables.ensures) in
    omega (arith, small (says_wide c.format_of-format.result) _ _ _ k_few c.sample_blocks.ensures.1 c.label_blocks.ensures.1)

pub returns-then-sheet-blocks : goal.returns-then-sheet-blocks
unfolding refusal_in FindsFormat word_of first_of found_by
returns-then-sheet-blocks c =
    let t = tables_lent c.args.lent in
    let n_is = c.wide-n.ensures ∙ c.field.ensures in
    let k_is = c.wide-k.ensures ∙ c.field-2.ensures in
    let fine = sym c.in_ok-judge_tables.ensures in
    let is = need_is t _ _ n_is k_is fine (says_wide c.format_of-format.result) c.format_of-format.ensures _ _ c.sample_blocks.ensures.0 c.label_blocks.ensures.0 in
    record {
      result_value = rw (only t _ _ n_is k_is fine c.args.sheet.now, lt-ltb (length c.args.sheet.now) (need t _ _ n_is k_is fine) (omega (arith, c.if-sheet-blocks.true, is)));
      format = tt;
    }

pub returns-in_err-judge_tables : goal.returns-in_err-judge_tables
unfolding writes refusal_in found_by FindsFormat
returns-in_err-judge_tables c =
    let t = tables_lent c.args.lent in
    let p = passed _ _ c.from_residual.ensures.1 in
    record { result_value = rw p (refused_first (made_conditions t) _ _ c.in_err-judge_tables.ensures); format = rw p tt }

pub returns : goal.returns
unfolding refusal_in FindsFormat first_of found_by
returns c =
    let t = tables_lent c.args.lent in
    let n_is = c.wide-n.ensures ∙ c.field.ensures in
    let k_is = c.wide-k.ensures ∙ c.field-2.ensures in
    let fine = sym c.in_ok-judge_tables.ensures in
    let is = need_is t _ _ n_is k_is fine (says_wide c.format_of-format.result) c.format_of-format.ensures _ _ c.sample_blocks.ensures.0 c.label_blocks.ensures.0 in
    record {
      result_value = rw (only t _ _ n_is k_is fine c.args.sheet.now, le-ltb (length c.args.sheet.now) (need t _ _ n_is k_is fine) (omega (arith, c.if-sheet-blocks.false, is)));
      format = own t _ _ n_is k_is fine (says_wide c.format_of-format.result) c.format_of-format.ensures _ _ c.sample_blocks.ensures.0 c.label_blocks.ensures.0;
    }
