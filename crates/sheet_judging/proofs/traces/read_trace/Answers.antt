-- `sheet_judging::traces::read_trace` meets its contract: a trace is the n samples from n times its number on.
use mathlib.Core.Path.{◌≡◌, sym, ap, ◌∙◌, subst}
use mathlib.Core.Bool.{Bool}
use mathlib.Core.List.{List, []}
use Prim.Native.Nat.{ℕ, ◌+◌, ◌*◌, ◌-◌, ◌≤◌, ◌<◌}
use native.Mathlib.Nat.{mul-le-mul}
use native.Mathlib.Omega.{arith}
use lib.IntN.{ℤ}
use lib.ListN.{length, get_or}
use Rattle.segment.specs.Limits.{sample_most, SamplesWithin}
use Rattle.segment.specs.Stored.{samples_of, words_of}
use Rattle.segment.proofs.Stored.{samples_back}
use Rattle.dstree.specs.SheetWidths.{format_by, is_wide}
use Rattle.sheet.specs.Formats.{says_wide}
use Rattle.sheet_blocks.specs.Blocks.{label_start}
use Rattle.sheet_blocks.specs.Traces.{size_of, count_of, sheet_traces, IsAt, samples_from}
use Rattle.sheet_blocks.proofs.Places.{each_most}
use Rattle.sheet_judging.proofs.Samples.{SoundSheet, fine, trace_is, trace_inside, trace_within, number_few, size_few}
use Rattle.sheet_judging.proofs.traces.read_trace.Goals as goal

-- a trace of a sheet of which nothing is refused, in the format that code finds
module _ (bytes : List ℕ) (sound : SoundSheet bytes) (number size : ℕ) (h : number < count_of bytes) (size_is : size ≡ size_of bytes) where
  small : number * size ≤ 1048576
  small =
      mul-le-mul {n₁ = number} {m₁ = size} {n₂ = 4096} {m₂ = 256} (number_few bytes sound number h) (omega (arith, size_is, size_few bytes sound))

  module _ (four : Bool) (four_is : four ≡ is_wide bytes) where
    abbrev samples : ℕ → List ℤ
    samples from = samples_from (format_by four) bytes from size

    inside : number * size + size ≤ (label_start bytes - 1) * (format_by four).samples_per_block
    inside =
        subst (λ (b : Bool). number * size + size ≤ (label_start bytes - 1) * (format_by b).samples_per_block) (sym four_is)
        (subst (λ (n : ℕ). number * n + n ≤ (label_start bytes - 1) * (format_by (is_wide bytes)).samples_per_block) (sym size_is)
        (trace_inside bytes sound number h))

    within : SamplesWithin sample_most (samples (number * size))
    within =
        subst (λ (b : Bool). SamplesWithin sample_most (samples_from (format_by b) bytes (number * size) size)) (sym four_is)
        (subst (λ (n : ℕ). SamplesWithin sample_most (samples_from (format_by (is_wide bytes)) bytes (number * n) n)) (sym size_is)
        (trace_within bytes sound number h))

    said : samples (number * size) ≡ get_or (sheet_traces bytes) number []
    said =
        ap (λ (b : Bool). samples_from (format_by b) bytes (number * size) size) four_is
        ∙ ap (λ (n : ℕ). samples_from (format_by (is_wide bytes)) bytes (number * n) n) size_is
        ∙ sym (trace_is (is_wide bytes) bytes number h)

pub format_in-format-requires : goal.format_in-format-requires
format_in-format-requires c = (fine c.args.sheet.now c.requires.0).whole

pub overflow_mul-number : goal.overflow_mul-number
overflow_mul-number c =
    omega (arith, small c.args.sheet.now (fine c.args.sheet.now c.requires.0) c.args.number _ c.requires.1 c.requires.2)

pub at_sample-from-requires : goal.at_sample-from-requires
at_sample-from-requires c =
    omega (
      arith,
      small c.args.sheet.now (fine c.args.sheet.now c.requires.0) c.args.number _ c.requires.1 c.requires.2,
      (each_most (says_wide c.format_in-format.result)).0,
    )

pub read_samples-requires : goal.read_samples-requires
read_samples-requires c =
    let bytes = c.args.sheet.now in
    let sound = fine bytes c.requires.0 in
    let four = says_wide c.format_in-format.result in
    let f = format_by four in
    let n = length c.args.trace.now in
    let from = c.at_sample-from in
    let at_is = sym from.ensures.counted in (
      sound.whole,
      subst (IsAt f from.result.number from.result.used) at_is from.ensures,
      subst (λ (k : ℕ). k + n ≤ (label_start bytes - 1) * f.samples_per_block) at_is
          (inside bytes sound c.args.number n c.requires.1 c.requires.2 four c.format_in-format.ensures),
      λ e. subst (λ (k : ℕ). SamplesWithin sample_most (samples_from f bytes k n)) at_is
          (within bytes sound c.args.number n c.requires.1 c.requires.2 four c.format_in-format.ensures),
    )

pub returns : goal.returns
returns c =
    let bytes = c.args.sheet.now in
    let sound = fine bytes c.requires.0 in
    let four = says_wide c.format_in-format.result in
    let n = length c.args.trace.now in
    let there = within bytes sound c.args.number n c.requires.1 c.requires.2 four c.format_in-format.ensures in
    ap samples_of
    (c.read_samples.ensures.0 ∙ ap (λ (k : ℕ). words_of (samples_from (format_by four) bytes k n)) c.at_sample-from.ensures.counted)
    ∙ samples_back (samples_from (format_by four) bytes (c.args.number * n) n) there
    ∙ said bytes sound c.args.number n c.requires.1 c.requires.2 four c.format_in-format.ensures
