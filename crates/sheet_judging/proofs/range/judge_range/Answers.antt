-- `sheet_judging::range::judge_range` meets its contract: of a narrow sheet nothing is refused; of a wide one each return answers for one
-- condition.
use mathlib.Core.Path.{◌≡◌, refl, sym, ap, ap₂, ◌∙◌, subst}
use mathlib.Core.Bool.{Bool, true, false, not}
use mathlib.Core.Option.{none}
use mathlib.Core.List.{List, [], ◌∷◌}
use Prim.Native.Nat.{ℕ, ◌*◌, ◌-◌, ◌^◌, ◌<◌, ◌≤◌}
use native.Mathlib.Omega.{arith}
use Rattle.integer.specs.Words.{every}
use Rattle.dstree.specs.Measures.{Trace, Measures, sample_limit, are_within}
use Rattle.dstree.specs.Refusals.{bad_sheet, sample_range, ◌refuses◌, first_of}
use Rattle.dstree.specs.Sheet.{Format, blocks_in, conditions_as}
use Rattle.dstree.specs.SheetWidths.{format_by, all_narrow, traces_held, range_conditions}
use Rattle.dstree.proofs.SheetFields.{known_bytes}
use Rattle.tables.specs.Answers.{word_of, found_by}
use Rattle.tables.proofs.Range.{samples_fit}
use Rattle.sheet_blocks.specs.Blocks.{block_at, label_start}
use Rattle.sheet_blocks.specs.Traces.{size_of, count_of, samples_from}
use Rattle.sheet_blocks.proofs.Places.{first_inside}
use Rattle.sheet.specs.Formats.{says_wide}
use Rattle.sheet_judging.proofs.Samples.{GoodAs, good_as, range_as, count_few, samples_inside_lem}
use Rattle.sheet_judging.proofs.Ranged.{held_within, narrow_fits}
use Rattle.sheet_judging.specs.HeadBlock.{HeadSays}
use Rattle.sheet_judging.proofs.range.judge_range.Goals as goal

-- what block 0 says
module _ (four : Bool) (bytes : List ℕ) (passed : first_of (conditions_as (format_by four) bytes) ≡ none) where
  abbrev f : Format
  f = format_by four

  good : GoodAs f bytes
  good = good_as f bytes passed

  abbrev traces : List Trace
  traces = traces_held f (blocks_in bytes)

  module _ (n capacity leaf_size count : ℕ) (h : HeadSays (block_at bytes 0) n capacity leaf_size count) where
    n_is : n ≡ size_of bytes
    n_is = sym (ap (λ (m : Measures). m.n) h.measures_are)

    all_is : count * n ≡ count_of bytes * size_of bytes
    all_is = ap₂ (λ (x y : ℕ). x * y) (sym h.count_is) n_is

    counted : count * n < 2 ^ 64
    counted = samples_fit count n (omega (arith, h.count_is, count_few four bytes good)) (omega (arith, n_is, (range_as four bytes good).n_high))

    inside : count * n ≤ (label_start bytes - 1) * f.samples_per_block
    inside = omega (arith, all_is, samples_inside_lem four bytes good)

    -- a test
    tested : (limit : ℕ) (b : Bool) → b ≡ are_within limit (samples_from f bytes 0 (count * n)) → every (are_within limit) traces ≡ b
    tested limit b e =
        held_within limit f bytes good.whole
        ∙ sym (e ∙ ap (λ (k : ℕ). are_within limit (samples_from f bytes 0 k)) all_is)

-- what they make of the conditions
ranges_are : (w : Bool) (xs : List Trace) (a b : Bool) → w ≡ true → every (are_within 32768) xs ≡ a → every (are_within 524288) xs ≡ b
    → first_of (range_conditions w xs) ≡ first_of (a refuses bad_sheet ∷ not b refuses sample_range ∷ [])
unfolding range_conditions all_narrow sample_limit
ranges_are w xs a b e fits within = rw (e, fits, within) refl

pub returns-in-Narrow : goal.returns-in-Narrow
unfolding found_by
returns-in-Narrow c =
    let b = c.args.sheet.now in
    let narrow_is = ap says_wide c.in-Narrow.is in
    let known = known_bytes b (λ i. (c.type_inv.sheet i).fits) in
    sym (ap (λ (w : Bool). first_of (range_conditions w (traces_held (format_by w) (blocks_in b)))) narrow_is
    ∙ narrow_fits b known (subst (λ (w : Bool). first_of (conditions_as (format_by w) b) ≡ none) narrow_is c.requires))

pub head_of-head-requires : goal.head_of-head-requires
head_of-head-requires c = first_inside c.args.sheet.now (good (says_wide c.args.format) c.args.sheet.now c.requires).whole

pub overflow_mul-count : goal.overflow_mul-count
overflow_mul-count c = record { fits = counted (says_wide c.args.format) c.args.sheet.now c.requires _ _ _ _ c.head_of-head.ensures }

pub all_fit-requires : goal.all_fit-requires
all_fit-requires c = (
  (good (says_wide c.args.format) c.args.sheet.now c.requires).whole,
  inside (says_wide c.args.format) c.args.sheet.now c.requires _ _ _ _ c.head_of-head.ensures,
)

pub returns-then-all_fit : goal.returns-then-all_fit
unfolding found_by word_of first_of
returns-then-all_fit c =
    let b = c.args.sheet.now in
    let four = says_wide c.args.format in
    let fits = tested four b c.requires _ _ _ _ c.head_of-head.ensures 32768 c.all_fit.result c.all_fit.ensures in
    let xs = traces four b c.requires in
    sym (ranges_are four xs true (every (are_within 524288) xs) (ap says_wide c.in-Wide.is) (fits ∙ c.if-all_fit.true) refl)

pub all_fit-requires-in-Wide : goal.all_fit-requires-in-Wide
all_fit-requires-in-Wide c = (
  (good (says_wide c.args.format) c.args.sheet.now c.requires).whole,
  inside (says_wide c.args.format) c.args.sheet.now c.requires _ _ _ _ c.head_of-head.ensures,
)

pub returns-then-not-all_fit : goal.returns-then-not-all_fit
unfolding found_by word_of first_of
returns-then-not-all_fit c =
    let b = c.args.sheet.now in
    let four = says_wide c.args.format in
    let fits = tested four b c.requires _ _ _ _ c.head_of-head.ensures 32768 c.all_fit.result c.all_fit.ensures in
    let outside = tested four b c.requires _ _ _ _ c.head_of-head.ensures 524288 c.all_fit-in-Wide.result c.all_fit-in-Wide.ensures in
    sym (ranges_are four (traces four b c.requires) false false (ap says_wide c.in-Wide.is) (fits ∙ c.if-all_fit.false) (outside ∙ c.if-not-all_fit.true))

pub returns-else-not-all_fit : goal.returns-else-not-all_fit
unfolding found_by first_of
returns-else-not-all_fit c =
    let b = c.args.sheet.now in
    let four = says_wide c.args.format in
    let fits = tested four b c.requires _ _ _ _ c.head_of-head.ensures 32768 c.all_fit.result c.all_fit.ensures in
    let within = tested four b c.requires _ _ _ _ c.head_of-head.ensures 524288 c.all_fit-in-Wide.result c.all_fit-in-Wide.ensures in
    sym (ranges_are four (traces four b c.requires) false true (ap says_wide c.in-Wide.is) (fits ∙ c.if-all_fit.false) (within ∙ c.if-not-all_fit.false))
