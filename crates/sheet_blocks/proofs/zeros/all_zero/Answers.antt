-- `sheet_blocks::zeros::all_zero` meets its contract: area by area.
use mathlib.Core.Path.{◌≡◌, refl, sym, ap, ap₂, ◌∙◌, subst, subst₂}
use mathlib.Core.Bool.{Bool}
use mathlib.Core.List.{List}
use Prim.Native.Nat.{ℕ, ◌*◌, ◌-◌, ◌≤◌}
use native.Mathlib.Nat.{mul-le-mul}
use native.Mathlib.Omega.{arith}
use Rattle.dstree.specs.Sheet.{are_zero, Format, sample_size, label_cells, cells_size}
use Rattle.dstree.specs.SheetWidths.{format_by}
use Rattle.dstree.proofs.SheetWidths.{format_sound}
use Rattle.sheet.specs.Formats.{says_wide}
use Rattle.sheet_blocks.specs.Blocks.{InBlocks, block_count, label_start, RightNumbers, zeros_between, Fills}
use Rattle.sheet_blocks.proofs.Places.{first_inside, start_within}
use Rattle.sheet_blocks.proofs.Left.{samples_fill, labels_fill}
use Rattle.sheet_blocks.proofs.AllZero.{zeros_apart, sample_zeros, label_zeros}
use Rattle.sheet_blocks.proofs.zeros.all_zero.Goals as goal

samples_few : (count n : ℕ) → count ≤ 4096 → n ≤ 256 → count * n ≤ 1048576
samples_few count n h k = mul-le-mul {n₁ = count} {m₁ = n} {n₂ = 4096} {m₂ = 256} h k

-- the blocks that the cells of both kinds fill, and what is shown of them, from the place on where labels begin
module _ (four : Bool) (bytes : List ℕ) (start count n : ℕ) (whole : InBlocks bytes) (at : start ≡ label_start bytes) where
  abbrev f : Format
  f = format_by four

  abbrev taken : ℕ
  taken = f.sample_bytes * (count * n)

  module _ (right : RightNumbers f bytes count n) where
    fills : Fills (sample_size f) (start - 1) taken
    fills = subst (λ (k : ℕ). Fills (sample_size f) (k - 1) taken) (sym at) (samples_fill four bytes count n right)

    fill_labels : Fills (cells_size label_cells) (block_count bytes - start) (6 * count)
    fill_labels =
        subst (λ (k : ℕ). Fills (cells_size label_cells) (block_count bytes - k) (6 * count)) (sym at) (labels_fill f bytes count n right)

  samples_shown : {size behind : ℕ} → size ≡ sample_size f → behind ≡ taken
      → are_zero (zeros_between size behind bytes 1 start) ≡ are_zero (sample_zeros f bytes whole count n)
  samples_shown e k =
      ap₂ (λ (x y : ℕ). are_zero (zeros_between x y bytes 1 start)) e k
      ∙ ap (λ (k : ℕ). are_zero (zeros_between (sample_size f) taken bytes 1 k)) at

  labels_shown : are_zero (zeros_between (cells_size label_cells) (6 * count) bytes start (block_count bytes)) ≡ are_zero (label_zeros f bytes whole count n)
  labels_shown = ap (λ (k : ℕ). are_zero (zeros_between (cells_size label_cells) (6 * count) bytes k (block_count bytes))) at

pub returns-then-not-thirds_zero : goal.returns-then-not-thirds_zero
returns-then-not-thirds_zero c =
    let a = c.args in
    let f = format_by (says_wide a.format) in
    sym (zeros_apart f a.sheet.now c.requires.0 a.count a.n ∙ rw (sym c.thirds_zero.ensures ∙ c.if-not-thirds_zero.true) refl)

pub zeros-requires : goal.zeros-requires
zeros-requires c = (omega arith, omega (arith, first_inside c.args.sheet.now c.requires.0))

pub returns-then-not-zeros : goal.returns-then-not-zeros
returns-then-not-zeros c =
    let a = c.args in
    let f = format_by (says_wide a.format) in
    sym (zeros_apart f a.sheet.now c.requires.0 a.count a.n
    ∙ rw (sym c.thirds_zero.ensures ∙ c.if-not-thirds_zero.false, sym c.zeros.ensures ∙ c.if-not-zeros.true) refl)

pub overflow_mul-size : goal.overflow_mul-size
overflow_mul-size c = omega (arith, mul-le-mul c.sample_bytes-size.ensures.size.1 c.block_samples.ensures.size.1)

pub overflow_mul-count : goal.overflow_mul-count
overflow_mul-count c = omega (arith, samples_few c.args.count c.args.n c.requires.2 c.requires.3)

pub overflow_mul-size-2 : goal.overflow_mul-size-2
overflow_mul-size-2 c =
    omega (arith, mul-le-mul c.sample_bytes-size.ensures.size.1 (samples_few c.args.count c.args.n c.requires.2 c.requires.3))

pub behind_zero-requires : goal.behind_zero-requires
behind_zero-requires c =
    let a = c.args in
    let four = says_wide a.format in
    let each = ap₂ (λ (x y : ℕ). x * y) c.sample_bytes-size.ensures.value c.block_samples.ensures.value in
    let all = ap (λ (k : ℕ). k * (a.count * a.n)) c.sample_bytes-size.ensures.value in (
      c.requires.0,
      omega (arith, c.requires.1),
      omega (arith, c.requires.1, start_within a.sheet.now c.requires.0),
      omega (arith, each, (format_sound four).room),
      subst₂ (λ (x y : ℕ). Fills x (a.start - 1) y) (sym each) (sym all) (fills four a.sheet.now a.start a.count a.n c.requires.0 c.requires.1 c.requires.4),
    )

-- what the look at the blocks of samples showed
pub returns-then-not-behind_zero : goal.returns-then-not-behind_zero
returns-then-not-behind_zero c =
    let a = c.args in
    let four = says_wide a.format in
    let each = ap₂ (λ (x y : ℕ). x * y) c.sample_bytes-size.ensures.value c.block_samples.ensures.value in
    let all = ap (λ (k : ℕ). k * (a.count * a.n)) c.sample_bytes-size.ensures.value in
    let samples = c.behind_zero.ensures ∙ samples_shown four a.sheet.now a.start a.count a.n c.requires.0 c.requires.1 each all in
    sym (zeros_apart (format_by four) a.sheet.now c.requires.0 a.count a.n
    ∙ rw (
      sym c.thirds_zero.ensures ∙ c.if-not-thirds_zero.false,
      sym c.zeros.ensures ∙ c.if-not-zeros.false,
      sym samples ∙ c.if-not-behind_zero.true,
    ) refl)

pub behind_zero-requires-2 : goal.behind_zero-requires-2
behind_zero-requires-2 c =
    let a = c.args in (
      c.requires.0,
      omega (arith, c.requires.1, start_within a.sheet.now c.requires.0),
      omega arith,
      omega arith,
      fill_labels (says_wide a.format) a.sheet.now a.start a.count a.n c.requires.0 c.requires.1 c.requires.4,
    )

pub returns : goal.returns
returns c =
    let a = c.args in
    let four = says_wide a.format in
    let each = ap₂ (λ (x y : ℕ). x * y) c.sample_bytes-size.ensures.value c.block_samples.ensures.value in
    let all = ap (λ (k : ℕ). k * (a.count * a.n)) c.sample_bytes-size.ensures.value in
    let samples = c.behind_zero.ensures ∙ samples_shown four a.sheet.now a.start a.count a.n c.requires.0 c.requires.1 each all in
    let labels = c.behind_zero-2.ensures ∙ labels_shown four a.sheet.now a.start a.count a.n c.requires.0 c.requires.1 in
    sym (zeros_apart (format_by four) a.sheet.now c.requires.0 a.count a.n
    ∙ rw (
      sym c.thirds_zero.ensures ∙ c.if-not-thirds_zero.false,
      sym c.zeros.ensures ∙ c.if-not-zeros.false,
      sym samples ∙ c.if-not-behind_zero.false,
    ) (sym labels))
