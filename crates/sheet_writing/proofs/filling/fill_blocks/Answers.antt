-- `sheet_writing::filling::fill_blocks` meets its contract: before turn i, i blocks of samples stand behind block 0.
use mathlib.Core.Path.{◌≡◌, refl, ap, subst, ◌∙◌}
use mathlib.Core.List.{List}
use Prim.Native.Nat.{ℕ, ◌+◌}
use native.Mathlib.Nat.{mul-le-mul_right}
use native.Mathlib.Omega.{arith}
use lib.ListN.{take}
use Rattle.segment.specs.Stored.{samples_of}
use Rattle.dstree.proofs.SheetWidths.{half_by, format_sound}
use Rattle.sheet.specs.Formats.{format_by, says_wide}
use Rattle.sheet_writing.specs.Filled.{with_block, sample_block, with_samples}
use Rattle.sheet_writing.proofs.BlockByBlock.{none_sampled, samples_more}
use Rattle.sheet_writing.proofs.filling.fill_blocks.Goals as goal

pub loop-i-init : goal.loop-i-init
loop-i-init c =
    let a = c.args in
    let four = says_wide a.format in
    (none_sampled (format_by a.format) (half_by four) (format_sound four) (samples_of (take a.total a.samples.now)) a.sheet.now, refl)

pub fill_block-requires : goal.fill_block-requires
fill_block-requires c =
    let per = (format_by c.args.format).samples_per_block in
    (omega arith, omega (arith, mul-le-mul_right per c.loop-i-test.true, c.requires.1), omega arith, omega arith)

pub loop-i-preserved : goal.loop-i-preserved
loop-i-preserved c =
    let l = c.loop-i in
    let a = c.args in
    let f = format_by a.format in
    let four = says_wide a.format in
    let all = samples_of (take a.total a.samples.now) in (
      c.fill_block.ensures
          ∙ ap (λ (x : List ℕ). with_block x (1 + l.i) (sample_block f all l.i)) l.invariant.0
          ∙ samples_more f (half_by four) (format_sound four) all a.sheet.now l.i (omega arith),
      c.fill_block.auto.sheet ∙ l.invariant.1,
    )

pub returns : goal.returns
returns c =
    let l = c.loop-i in
    let a = c.args in
    let e : l.i ≡ a.count = omega arith in
    subst (λ (k : ℕ). l.sheet ≡ with_samples (format_by a.format) a.sheet.now k (samples_of (take a.total a.samples.now))) e l.invariant.0
