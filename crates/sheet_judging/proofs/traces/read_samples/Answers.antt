-- `sheet_judging::traces::read_samples` meets its contract. The loop's invariant: the first i places hold the first i samples, and the
-- cursor is at the next one. A turn reads those that lie in the cursor's block.
use mathlib.Core.Path.{◌≡◌, refl, sym, ap, ap₂, ◌∙◌, subst}
use mathlib.Core.Bool.{Bool}
use mathlib.Core.List.{List, ◌++◌, append_assoc}
use Prim.Native.Nat.{ℕ, ◌+◌, ◌*◌, ◌-◌, min, ◌≤◌, ◌<◌}
use native.Mathlib.Omega.{arith}
use native.Mathlib.Nat.{mul_comm, mul-le-mul, mul-le-mul_left}
use lib.IntN.{ℤ}
use lib.ListN.{length, take, drop, length-append}
use lib.Seq.{take_all, take_at, length-take-le}
use borrow.Rule.Slice.PartMut.{post_of, mid_len, same_len_mid}
use Rattle.integer.proofs.Rows.{map_append}
use Rattle.segment.specs.Limits.{sample_most, SamplesWithin}
use Rattle.segment.specs.Stored.{word_of, words_of}
use Rattle.dstree.specs.Sheet.{Format, most_blocks, sample_blocks_in, sample_bytes_in}
use Rattle.dstree.specs.SheetWidths.{format_by}
use Rattle.dstree.proofs.SheetWidths.{format_sound}
use Rattle.sheet_blocks.specs.Blocks.{InBlocks, later_blocks, label_start}
use Rattle.sheet_blocks.specs.Traces.{sample_number, IsAt, sample_place, samples_from}
use Rattle.sheet.specs.Codes.{samples_in}
use Rattle.sheet.specs.Formats.{says_wide}
use Rattle.sheet.proofs.SamplesIn.{samples_none}
use Rattle.sheet_blocks.proofs.Places.{blocks, block_inside, start_within, each_most}
use Rattle.sheet_judging.proofs.Samples.{samples_on, within_part, stretch_at, block_in}
use Rattle.sheet_judging.proofs.traces.read_samples.Goals as goal

-- the first places once more are put behind them
taken_more : (i k : ℕ) (xs ys behind : List ℤ) → i ≤ length xs → length ys ≡ k
    → take (i + k) (take i xs ++ (ys ++ behind)) ≡ take i xs ++ ys
taken_more i k xs ys behind h e =
    ap (take (i + k)) (sym (append_assoc (take i xs) ys behind))
    ∙ take_at (take i xs ++ ys) behind (i + k) (length-append (take i xs) ys ∙ ap₂ ◌+◌ (length-take-le i xs h) e)

-- so many samples from the first one on, all in the sheet
module _ (four : Bool) (bytes : List ℕ) (whole : InBlocks bytes) (first n : ℕ)
    (inside : first + n ≤ (label_start bytes - 1) * (format_by four).samples_per_block) where
  abbrev f : Format
  f = format_by four

  n_few : n ≤ most_blocks * 253
  n_few =
      let all = mul-le-mul {n₁ = label_start bytes - 1} {m₁ = f.samples_per_block} {n₂ = most_blocks} {m₂ = 253}
      (omega (arith, start_within bytes whole, (blocks bytes whole).few)) (each_most four).1 in
      omega (arith, inside, all)

  -- the one that is read next, and the block that it stands in
  module _ {number used i : ℕ} (at : IsAt f number used (first + i)) (more : i < n) where
    in_sheet : first + i < (label_start bytes - 1) * f.samples_per_block
    in_sheet = omega (arith, more, inside)

    in_block : number < label_start bytes
    in_block = block_in four bytes whole number used (first + i) at in_sheet

    number_few : number ≤ most_blocks
    number_few = omega (arith, in_block, start_within bytes whole, (blocks bytes whole).few)

    -- the stretch: k samples, whose bytes stand from a place on
    module _ {k size place : ℕ} (stretch : k ≡ min (n - i) (f.samples_per_block - used)) (size_is : size ≡ f.sample_bytes)
        (place_is : place ≡ sample_place f number used) where
      some : 0 < k
      some = omega (arith, stretch, at.within, more)

      k_in : i + k ≤ n
      k_in = omega (arith, stretch, more)

      within_block : used + k ≤ f.samples_per_block
      within_block = omega (arith, stretch, at.within)

      ends : place + size * k ≤ length bytes
      ends =
          let all : f.sample_bytes * (used + k) ≤ f.sample_bytes * f.samples_per_block = mul-le-mul_left f.sample_bytes within_block in
          omega (
            arith,
            place_is,
            ap (λ (x : ℕ). x * k) size_is,
            all,
            (format_sound four).room,
            block_inside bytes whole number (omega (arith, in_block, start_within bytes whole)),
          )

      small : size ≤ 4 → size * k ≤ 4 * 253
      small h = mul-le-mul {n₁ = size} {m₁ = k} {n₂ = 4} {m₂ = 253} h (omega (arith, within_block, (each_most four).1))

      -- what the bytes say
      said : {l : ℕ} → l ≡ k → samples_in f l (take (place + size * k - place) (drop place bytes)) ≡ samples_from f bytes (first + i) k
      said e =
          let m : place + size * k - place ≡ size * k = omega arith in
          let count = m ∙ mul_comm size k ∙ ap (λ (x : ℕ). k * x) size_is in
          ap₂ (samples_in f) e (ap₂ (λ (a b : ℕ). take a (drop b bytes)) count place_is)
          ∙ stretch_at four bytes whole number used (first + i) at in_sheet k within_block

pub loop-i-init : goal.loop-i-init
loop-i-init c =
    let f = format_by (says_wide c.args.format) in
    let first = sample_number f c.args.from.number c.args.from.used in
    let e : first ≡ first + 0 = omega arith in (
      omega arith,
      refl,
      ap words_of (sym (samples_none f (drop (first * f.sample_bytes) (sample_bytes_in f (sample_blocks_in (later_blocks c.args.sheet.now 1)))))),
      subst (IsAt f c.args.from.number c.args.from.used) e c.requires.1,
    )

pub stretch-k-requires : goal.stretch-k-requires
stretch-k-requires c = omega (arith, c.loop-i.invariant.3.within)

pub place-place-requires : goal.place-place-requires
place-place-requires c =
    let four = says_wide c.args.format in
    let bytes = c.args.sheet.now in
    let first = sample_number (format_by four) c.args.from.number c.args.from.used in
    let n = length c.args.places.now in
    let at = c.loop-i.invariant.3 in
    let more = c.loop-i-test.true in
    (number_few four bytes c.requires.0 first n c.requires.2 at more, at.within)

pub overflow_mul-size : goal.overflow_mul-size
overflow_mul-size c =
    let four = says_wide c.args.format in
    let bytes = c.args.sheet.now in
    let first = sample_number (format_by four) c.args.from.number c.args.from.used in
    let n = length c.args.places.now in
    let at = c.loop-i.invariant.3 in
    let more = c.loop-i-test.true in
    let size_few = c.sample_bytes-size.ensures.size.1 in
    omega (arith, small four bytes c.requires.0 first n c.requires.2 at more c.stretch-k.ensures c.sample_bytes-size.ensures.value c.place-place.ensures size_few)

pub overflow_add-place : goal.overflow_add-place
overflow_add-place c =
    let four = says_wide c.args.format in
    let bytes = c.args.sheet.now in
    let first = sample_number (format_by four) c.args.from.number c.args.from.used in
    let n = length c.args.places.now in
    let at = c.loop-i.invariant.3 in
    let more = c.loop-i-test.true in
    omega (arith, ends four bytes c.requires.0 first n c.requires.2 at more c.stretch-k.ensures c.sample_bytes-size.ensures.value c.place-place.ensures)

pub slice_bounds-copy_samples-start : goal.slice_bounds-copy_samples-start
slice_bounds-copy_samples-start c =
    let four = says_wide c.args.format in
    let bytes = c.args.sheet.now in
    let first = sample_number (format_by four) c.args.from.number c.args.from.used in
    let n = length c.args.places.now in
    let at = c.loop-i.invariant.3 in
    let more = c.loop-i-test.true in
    omega (arith, ends four bytes c.requires.0 first n c.requires.2 at more c.stretch-k.ensures c.sample_bytes-size.ensures.value c.place-place.ensures)

pub slice_bounds-copy_samples-end : goal.slice_bounds-copy_samples-end
slice_bounds-copy_samples-end c =
    let four = says_wide c.args.format in
    let bytes = c.args.sheet.now in
    let first = sample_number (format_by four) c.args.from.number c.args.from.used in
    let n = length c.args.places.now in
    let at = c.loop-i.invariant.3 in
    let more = c.loop-i-test.true in
    omega (arith, ends four bytes c.requires.0 first n c.requires.2 at more c.stretch-k.ensures c.sample_bytes-size.ensures.value c.place-place.ensures)

pub overflow_add-i : goal.overflow_add-i
overflow_add-i c =
    let four = says_wide c.args.format in
    let bytes = c.args.sheet.now in
    let first = sample_number (format_by four) c.args.from.number c.args.from.used in
    let n = length c.args.places.now in
    let at = c.loop-i.invariant.3 in
    let more = c.loop-i-test.true in
    let inside = k_in four bytes c.requires.0 first n c.requires.2 at more c.stretch-k.ensures c.sample_bytes-size.ensures.value c.place-place.ensures in
    omega (arith, n_few four bytes c.requires.0 first n c.requires.2, inside)

pub slice_bounds-copy_samples-start-in-loop-i : goal.slice_bounds-copy_samples-start-in-loop-i
slice_bounds-copy_samples-start-in-loop-i c =
    let four = says_wide c.args.format in
    let bytes = c.args.sheet.now in
    let first = sample_number (format_by four) c.args.from.number c.args.from.used in
    let n = length c.args.places.now in
    let at = c.loop-i.invariant.3 in
    let more = c.loop-i-test.true in
    let inside = k_in four bytes c.requires.0 first n c.requires.2 at more c.stretch-k.ensures c.sample_bytes-size.ensures.value c.place-place.ensures in
    omega (arith, inside, c.loop-i.invariant.1)

pub slice_bounds-copy_samples-end-in-loop-i : goal.slice_bounds-copy_samples-end-in-loop-i
slice_bounds-copy_samples-end-in-loop-i c =
    let four = says_wide c.args.format in
    let bytes = c.args.sheet.now in
    let first = sample_number (format_by four) c.args.from.number c.args.from.used in
    let n = length c.args.places.now in
    let at = c.loop-i.invariant.3 in
    let more = c.loop-i-test.true in
    let inside = k_in four bytes c.requires.0 first n c.requires.2 at more c.stretch-k.ensures c.sample_bytes-size.ensures.value c.place-place.ensures in
    omega (arith, inside, c.loop-i.invariant.1)

pub copy_samples-requires : goal.copy_samples-requires
copy_samples-requires c =
    let four = says_wide c.args.format in
    let bytes = c.args.sheet.now in
    let first = sample_number (format_by four) c.args.from.number c.args.from.used in
    let n = length c.args.places.now in
    let at = c.loop-i.invariant.3 in
    let more = c.loop-i-test.true in
    let i = c.loop-i.i in
    let k = c.stretch-k.result in
    let size = c.sample_bytes-size.result in
    let place = c.place-place.result in
    let places = c.loop-i.places in
    let inside = k_in four bytes c.requires.0 first n c.requires.2 at more c.stretch-k.ensures c.sample_bytes-size.ensures.value c.place-place.ensures in
    let lent : length (take (i + k - i) (drop i places)) ≡ k = omega (arith, mid_len i (i + k) places (omega (arith, inside, c.loop-i.invariant.1))) in
    let end = ends four bytes c.requires.0 first n c.requires.2 at more c.stretch-k.ensures c.sample_bytes-size.ensures.value c.place-place.ensures in
    let long = mid_len place (place + size * k) bytes end in
    let there = said four bytes c.requires.0 first n c.requires.2 at more c.stretch-k.ensures c.sample_bytes-size.ensures.value c.place-place.ensures lent in (
      subst (λ (x : ℕ). x * length (take (i + k - i) (drop i places)) ≤ length (take (place + size * k - place) (drop place bytes)))
          c.sample_bytes-size.ensures.value (omega (arith, ap (λ (x : ℕ). size * x) lent, long)),
      λ e. subst (SamplesWithin sample_most) (sym there) (within_part four bytes sample_most first i k n inside (c.requires.3 e)),
    )

pub pass-cursor-requires : goal.pass-cursor-requires
pass-cursor-requires c =
    let four = says_wide c.args.format in
    let bytes = c.args.sheet.now in
    let first = sample_number (format_by four) c.args.from.number c.args.from.used in
    let n = length c.args.places.now in
    let at = c.loop-i.invariant.3 in
    let more = c.loop-i-test.true in
    let inside = within_block four bytes c.requires.0 first n c.requires.2 at more c.stretch-k.ensures c.sample_bytes-size.ensures.value c.place-place.ensures in
    (number_few four bytes c.requires.0 first n c.requires.2 at more, inside)

pub overflow_add-i-in-loop-i : goal.overflow_add-i-in-loop-i
overflow_add-i-in-loop-i c =
    let four = says_wide c.args.format in
    let bytes = c.args.sheet.now in
    let first = sample_number (format_by four) c.args.from.number c.args.from.used in
    let n = length c.args.places.now in
    let at = c.loop-i.invariant.3 in
    let more = c.loop-i-test.true in
    let inside = k_in four bytes c.requires.0 first n c.requires.2 at more c.stretch-k.ensures c.sample_bytes-size.ensures.value c.place-place.ensures in
    omega (arith, n_few four bytes c.requires.0 first n c.requires.2, inside)

pub loop-i-smaller : goal.loop-i-smaller
loop-i-smaller c =
    let four = says_wide c.args.format in
    let bytes = c.args.sheet.now in
    let first = sample_number (format_by four) c.args.from.number c.args.from.used in
    let n = length c.args.places.now in
    let at = c.loop-i.invariant.3 in
    let more = c.loop-i-test.true in
    let inside = k_in four bytes c.requires.0 first n c.requires.2 at more c.stretch-k.ensures c.sample_bytes-size.ensures.value c.place-place.ensures in
    let moved = some four bytes c.requires.0 first n c.requires.2 at more c.stretch-k.ensures c.sample_bytes-size.ensures.value c.place-place.ensures in
    omega (arith, inside, moved)

pub loop-i-preserved : goal.loop-i-preserved
loop-i-preserved c =
    let four = says_wide c.args.format in
    let bytes = c.args.sheet.now in
    let first = sample_number (format_by four) c.args.from.number c.args.from.used in
    let n = length c.args.places.now in
    let at = c.loop-i.invariant.3 in
    let more = c.loop-i-test.true in
    let f = format_by four in
    let i = c.loop-i.i in
    let k = c.stretch-k.result in
    let places = c.loop-i.places in
    let copied = c.copy_samples.new.places in
    let inside = k_in four bytes c.requires.0 first n c.requires.2 at more c.stretch-k.ensures c.sample_bytes-size.ensures.value c.place-place.ensures in
    let room : i + k ≤ length places = omega (arith, inside, c.loop-i.invariant.1) in
    let lent : length (take (i + k - i) (drop i places)) ≡ k = omega (arith, mid_len i (i + k) places room) in
    let there = said four bytes c.requires.0 first n c.requires.2 at more c.stretch-k.ensures c.sample_bytes-size.ensures.value c.place-place.ensures lent in
    let copied_are = c.copy_samples.ensures.places_after ∙ ap words_of there in
    let on : first + i + k ≡ first + (i + k) = omega arith in (
      inside,
      same_len_mid i (i + k - i) places copied c.copy_samples.auto.places ∙ c.loop-i.invariant.1,
      taken_more i k places copied (post_of i (i + k - i) places) (omega (arith, room)) (c.copy_samples.auto.places ∙ lent)
          ∙ ap₂ (λ (a b : List ℤ). a ++ b) c.loop-i.invariant.2 copied_are
          ∙ sym (ap words_of (samples_on four bytes first i k) ∙ map_append word_of (samples_from f bytes first i) (samples_from f bytes (first + i) k)),
      subst (IsAt f c.pass-cursor.result.number c.pass-cursor.result.used) on (c.pass-cursor.ensures (first + i) at),
    )

pub shape_of-places : goal.shape_of-places
shape_of-places c = c.loop-i.invariant.1

pub returns : goal.returns
returns c =
    let four = says_wide c.args.format in
    let bytes = c.args.sheet.now in
    let first = sample_number (format_by four) c.args.from.number c.args.from.used in
    let n = length c.args.places.now in
    let f = format_by four in
    let all : c.loop-i.i ≡ n = omega (arith, c.loop-i-test.false, c.loop-i.invariant.0) in (
      sym (take_all c.loop-i.i c.loop-i.places (omega (arith, all, c.loop-i.invariant.1)))
          ∙ c.loop-i.invariant.2
          ∙ ap (λ (k : ℕ). words_of (samples_from f bytes first k)) all,
      subst (λ (k : ℕ). IsAt f c.loop-i.cursor.number c.loop-i.cursor.used (first + k)) all c.loop-i.invariant.3,
    )
