-- `sheet_judging::range::all_fit` meets its contract: the first i samples fit.
use mathlib.Core.Path.{◌≡◌, refl, sym, ap, ◌∙◌}
use mathlib.Core.Bool.{Bool}
use mathlib.Core.List.{List}
use Prim.Native.Nat.{ℕ, ◌*◌, ◌-◌, ◌≤◌, ◌<◌, ◌+◌}
use native.Mathlib.Nat.{mul-le-mul, mul-le-mul_left}
use native.Mathlib.Omega.{arith}
use lib.IntN.{ℤ, pos}
use lib.Signed.{mag}
use lib.ListN.{length, get_or, drop}
use lib.Seq.{take_all}
use mir.Syntax.{w32}
use mir.Facts.{to_z-of_z}
use Rattle.integer.specs.Words.{every}
use Rattle.integer.proofs.Width.{of_mag, read}
use Rattle.segment.proofs.Stored.{FitsWord}
use Rattle.dstree.specs.Measures.{are_within}
use Rattle.dstree.specs.Sheet.{Format, most_blocks, part, sample_blocks_in, sample_bytes_in, decoded}
use Rattle.dstree.specs.SheetWidths.{format_by}
use Rattle.dstree.proofs.SheetWidths.{format_sound}
use Rattle.sheet.specs.Formats.{says_wide}
use Rattle.sheet.proofs.SamplesIn.{samples_length}
use Rattle.sheet.proofs.Within.{within_more, within_not}
use Rattle.sheet_blocks.specs.Blocks.{InBlocks, later_blocks, label_start}
use Rattle.sheet_blocks.specs.Traces.{IsAt, sample_place, samples_from}
use Rattle.sheet_blocks.proofs.Places.{blocks, block_inside, start_within}
use Rattle.sheet_judging.proofs.Samples.{block_in, sample_there}
use Rattle.sheet_judging.proofs.range.all_fit.Goals as goal

module _ (four : Bool) (bytes : List ℕ) (whole : InBlocks bytes) (count : ℕ) (inside : count ≤ (label_start bytes - 1) * (format_by four).samples_per_block) where
  abbrev f : Format
  f = format_by four

  abbrev samples : List ℤ
  samples = samples_from f bytes 0 count

  samples_long : length samples ≡ count
  samples_long = samples_length f count (drop (0 * f.sample_bytes) (sample_bytes_in f (sample_blocks_in (later_blocks bytes 1))))

  -- so many samples are in a sheet
  few : count ≤ most_blocks * f.samples_per_block
  few =
      let all = mul-le-mul {n₁ = label_start bytes - 1} {m₁ = f.samples_per_block} {n₂ = most_blocks} {m₂ = f.samples_per_block}
      (omega (arith, start_within bytes whole, (blocks bytes whole).few)) (omega arith) in
      omega (arith, inside, all)

  -- sample i, and the block that it stands in
  module _ {number used i : ℕ} (at : IsAt f number used i) (h : i < count) where
    in_sheet : i < (label_start bytes - 1) * f.samples_per_block
    in_sheet = omega (arith, h, inside)

    in_block : number < label_start bytes
    in_block = block_in four bytes whole number used i at in_sheet

    number_few : number ≤ most_blocks
    number_few = omega (arith, in_block, start_within bytes whole, (blocks bytes whole).few)

    ends : sample_place f number used + f.sample_bytes ≤ length bytes
    ends =
        omega (
          arith,
          mul-le-mul_left f.sample_bytes at.within,
          (format_sound four).room,
          block_inside bytes whole number (omega (arith, in_block, start_within bytes whole)),
        )

    -- how far it lies from 0, as code finds it
    size_is : {sample : ℤ} {place : ℕ} → FitsWord sample → place ≡ sample_place f number used → sample ≡ decoded f (part place f.sample_bytes bytes)
        → mag (read w32 sample) ≡ mag (get_or samples i (pos 0))
    size_is {sample} fits p e =
        ap mag (to_z-of_z (of_mag {w = w32} sample fits) ∙ e ∙ ap (λ (k : ℕ). decoded f (part k f.sample_bytes bytes)) p
        ∙ sym (sample_there four bytes whole number used i at in_sheet count h))

pub loop-i-init : goal.loop-i-init
unfolding every
loop-i-init c = refl

pub at_sample-cursor-requires : goal.at_sample-cursor-requires
at_sample-cursor-requires c = omega (arith, few (says_wide c.args.format) c.args.sheet.now c.requires.0 c.args.count c.requires.1, c.loop-i-test.true)

pub place-requires : goal.place-requires
place-requires c =
    let at = c.at_sample-cursor.ensures in
    (number_few (says_wide c.args.format) c.args.sheet.now c.requires.0 c.args.count c.requires.1 at c.loop-i-test.true, at.within)

pub sample_at-sample-requires : goal.sample_at-sample-requires
sample_at-sample-requires c =
    omega (
      arith,
      c.place.ensures,
      ends (says_wide c.args.format) c.args.sheet.now c.requires.0 c.args.count c.requires.1 c.at_sample-cursor.ensures c.loop-i-test.true,
    )

pub returns-then-limit-magnitude : goal.returns-then-limit-magnitude
returns-then-limit-magnitude c =
    let a = c.args in
    let four = says_wide a.format in
    let all = samples_from (format_by four) a.sheet.now 0 a.count in
    let inside : c.loop-i.i < length all = omega (arith, c.loop-i-test.true, samples_long four a.sheet.now c.requires.0 a.count c.requires.1) in
    let size = size_is four a.sheet.now c.requires.0 a.count c.requires.1 c.at_sample-cursor.ensures c.loop-i-test.true
    c.sample_at-sample.type_inv c.place.ensures c.sample_at-sample.ensures.value in
    sym (within_not a.limit all c.loop-i.i inside (omega (arith, c.if-limit-magnitude.true, c.magnitude.ensures, size)))

pub loop-i-preserved : goal.loop-i-preserved
loop-i-preserved c =
    let a = c.args in
    let four = says_wide a.format in
    let all = samples_from (format_by four) a.sheet.now 0 a.count in
    let inside : c.loop-i.i < length all = omega (arith, c.loop-i-test.true, samples_long four a.sheet.now c.requires.0 a.count c.requires.1) in
    let size = size_is four a.sheet.now c.requires.0 a.count c.requires.1 c.at_sample-cursor.ensures c.loop-i-test.true
    c.sample_at-sample.type_inv c.place.ensures c.sample_at-sample.ensures.value in
    within_more a.limit all c.loop-i.i inside c.loop-i.invariant (omega (arith, c.if-limit-magnitude.false, c.magnitude.ensures, size))

pub returns : goal.returns
returns c =
    let a = c.args in
    let all = samples_from (format_by (says_wide a.format)) a.sheet.now 0 a.count in
    let long = samples_long (says_wide a.format) a.sheet.now c.requires.0 a.count c.requires.1 in
    sym (sym (ap (are_within a.limit) (take_all c.loop-i.i all (omega (arith, long)))) ∙ c.loop-i.invariant)
