-- The samples of an accepted sheet, where they stand, and room for its labels.
use Prim.Native.Nat.{ℕ, suc, ◌+◌, ◌*◌, ◌-◌, ◌≤◌, ◌<◌}
use mathlib.Core.Path.{◌≡◌, refl, sym, ◌∙◌, ap, subst}
use mathlib.Core.Bool.{Bool}
use mathlib.Core.Option.{none}
use mathlib.Core.List.{List, [], ◌++◌}
use native.Mathlib.Omega.{arith}
use native.Mathlib.Decide.{dec_le}
use native.Mathlib.Nat.{suc-mul, le_refl, lt_of_not-le, mul-le-mul_left, mul-le-mul_right}
use lib.IntN.{ℤ, pos}
use lib.Signed.{mag}
use lib.ListN.{length, get_or, take, drop}
use lib.Seq.{drop-drop}
use lib.Dec.{T}
use Rattle.integer.specs.Words.{every}
use Rattle.integer.proofs.Tests.{test_true}
use Rattle.integer.proofs.Lists.{all_more, all_parts, from_every, in_get_or}
use Rattle.segment.specs.Limits.{sample_most, SamplesWithin}
use Rattle.dstree.specs.Measures.{sample_limit, in_range, are_samples}
use Rattle.dstree.specs.Refusals.{first_of}
use Rattle.dstree.specs.Sheet.{Format, block_size, label_cells, sample_size, part, blocks_in, measures_in, sample_blocks_in, cell_bytes_in, sample_bytes_in}
use Rattle.dstree.specs.Sheet.{traces_in_blocks, sample_blocks_needed, torn_conditions, bad_conditions, conditions_as, decoded}
use Rattle.dstree.specs.SheetWidths.{format_by, is_wide, format_in, traces_held, range_conditions, sheet_conditions}
use Rattle.dstree.proofs.Conditions.{NoneOf, none_of, none_both}
use Rattle.dstree.proofs.SheetFormat.{needed_room, labels_sound, cells_room}
use Rattle.dstree.proofs.SheetPieces.{pieces_length}
use Rattle.dstree.proofs.SheetRead.{GoodSheet, none_good, LabelBlocks, unlabelled, labelled}
use Rattle.dstree.proofs.SheetWidths.{half_by, format_sound, all_samples}
use Rattle.tables.specs.Judge.{InRange}
use Rattle.tables.proofs.Range.{in_range_lem}
use Rattle.tables.proofs.Samples.{samples_inside_lem as inside_limits}
use Rattle.sheet_blocks.specs.Blocks.{block_count, InBlocks, block_at, blocks_between, later_blocks, label_start}
use Rattle.sheet_blocks.specs.Traces.{size_of, count_of, sheet_traces, IsAt, sample_place, samples_from}
use Rattle.sheet.specs.Codes.{samples_in}
use Rattle.sheet.proofs.SamplesIn.{samples_add, samples_first, samples_length, samples_at, trace_at}
use Rattle.sheet_blocks.proofs.Places.{blocks_are, start_within, samples_between}
use Rattle.sheet_blocks.proofs.Carried.{carried_part}
use Rattle.sheet_judging.specs.LabelBlocks.{label_blocks, HaveRoom}
use Rattle.sheet_judging.proofs.Bad.{sample_blocks, label_blocks_lem}

-- ---- a sheet of which nothing is refused in a format

pub record GoodAs (f : Format) (bytes : List ℕ) : Type 0 where
  pub whole : InBlocks bytes
  pub good : GoodSheet f (block_at bytes 0) (later_blocks bytes 1)

none_good_as : (f : Format) (bytes : List ℕ) → NoneOf (conditions_as f bytes) → GoodAs f bytes
unfolding conditions_as
none_good_as f bytes (all_more l rest) =
    let bad : NoneOf (bad_conditions f (blocks_in bytes)) = (all_parts (torn_conditions f 0 0 (blocks_in bytes)) rest).1 in
    record {
      whole = l;
      good = none_good f (block_at bytes 0) (later_blocks bytes 1)
          (subst (λ (bs : List (List ℕ)). NoneOf (bad_conditions f bs)) (blocks_are bytes l) bad);
    }

pub good_as : (f : Format) (bytes : List ℕ) → first_of (conditions_as f bytes) ≡ none → GoodAs f bytes
good_as f bytes e = none_good_as f bytes (none_of (conditions_as f bytes) e)

-- the traces that its blocks hold
pub held_are : (f : Format) (bytes : List ℕ) → InBlocks bytes
    → traces_held f (blocks_in bytes) ≡ traces_in_blocks f (count_of bytes) (size_of bytes) (sample_blocks_in (later_blocks bytes 1))
unfolding traces_held
held_are f bytes whole = rw (blocks_are bytes whole) refl

-- the sizes that such a sheet says
module _ (four : Bool) (bytes : List ℕ) (g : GoodAs (format_by four) bytes) where
  abbrev f : Format
  f = format_by four

  pub range_as : InRange (measures_in (block_at bytes 0))
  range_as = in_range_lem (measures_in (block_at bytes 0)) (test_true (in_range (measures_in (block_at bytes 0))) g.good.measured)

  pub count_few : count_of bytes ≤ 4096
  count_few = omega (arith, g.good.counted, range_as.capacity_high)

  -- all samples stand in its blocks
  pub samples_inside_lem : count_of bytes * size_of bytes ≤ (label_start bytes - 1) * f.samples_per_block
  samples_inside_lem =
      let blocks : label_start bytes - 1 ≡ sample_blocks_needed f (count_of bytes) (size_of bytes) = sym (sample_blocks bytes g.whole) ∙ g.good.sampled in
      subst (λ (k : ℕ). count_of bytes * size_of bytes ≤ k * f.samples_per_block) (sym blocks)
      (needed_room f (half_by four) (format_sound four) (count_of bytes) (size_of bytes))

-- ---- a sheet that is not refused

pub record SoundSheet (bytes : List ℕ) : Type 0 where
  pub whole : InBlocks bytes
  pub good : GoodSheet (format_in bytes) (block_at bytes 0) (later_blocks bytes 1)
  -- no sample is outside the limits
  pub ranged : T (every are_samples (sheet_traces bytes))

pub fine : (bytes : List ℕ) → first_of (sheet_conditions bytes) ≡ none → SoundSheet bytes
unfolding sheet_conditions
fine bytes e =
    let both = none_both (conditions_as (format_in bytes) bytes) (range_conditions (is_wide bytes) (traces_held (format_in bytes) (blocks_in bytes))) e in
    let g = good_as (format_in bytes) bytes both.0 in
    record {
      whole = g.whole;
      good = g.good;
      ranged = subst (λ (l : _). T (every are_samples l)) (held_are (format_in bytes) bytes g.whole)
          (all_samples (is_wide bytes) (traces_held (format_in bytes) (blocks_in bytes)) both.1);
    }

-- the sizes that such a sheet says
module _ (bytes : List ℕ) (s : SoundSheet bytes) where
  abbrev own : GoodAs (format_in bytes) bytes
  own = record { whole = s.whole; good = s.good }

  pub range : InRange (measures_in (block_at bytes 0))
  range = range_as (is_wide bytes) bytes own

  pub size_few : size_of bytes ≤ 256
  size_few = range.n_high

  pub number_few : (number : ℕ) → number < count_of bytes → number ≤ 4096
  number_few number h = omega (arith, s.good.counted, range.capacity_high)

  -- every trace stands in its blocks
  pub trace_inside : (number : ℕ) → number < count_of bytes
      → number * size_of bytes + size_of bytes ≤ (label_start bytes - 1) * (format_in bytes).samples_per_block
  trace_inside number h =
      let n : ℕ = size_of bytes in
      let inside : suc number * n ≤ count_of bytes * n = mul-le-mul_right n h in
      omega (arith, inside, suc-mul number n, samples_inside_lem (is_wide bytes) bytes own)

  -- every label has its place
  pub labels_inside : HaveRoom bytes (count_of bytes)
  labels_inside some = by s.good.labels_good
    where
      by : LabelBlocks (count_of bytes) (label_blocks bytes) → count_of bytes ≤ (block_count bytes - label_start bytes) * label_cells.cells_per_block
      by (unlabelled e) =
          absurd (some (omega (arith, ap (λ (l : List (List ℕ)). length l) e, label_blocks_lem bytes s.whole, start_within bytes s.whole)))
      by (labelled e z) = omega (arith, e, label_blocks_lem bytes s.whole, cells_room label_cells labels_sound (count_of bytes))

-- ---- samples

module _ (four : Bool) (bytes : List ℕ) where
  abbrev g : Format
  g = format_by four

  abbrev width : ℕ
  width = g.sample_bytes

  abbrev taken : List ℕ
  taken = sample_bytes_in g (sample_blocks_in (later_blocks bytes 1))

  -- a trace is the n samples from n times its number on
  pub trace_is : (number : ℕ) → number < count_of bytes
      → get_or (traces_in_blocks g (count_of bytes) (size_of bytes) (sample_blocks_in (later_blocks bytes 1))) number []
      ≡ samples_from g bytes (number * size_of bytes) (size_of bytes)
  unfolding traces_in_blocks
  trace_is number h =
      let all : ℕ = count_of bytes * size_of bytes in
      trace_at g (size_of bytes) (count_of bytes) all number taken h (le_refl all)

  -- samples behind others
  pub samples_on : (first a b : ℕ) → samples_from g bytes first (a + b) ≡ samples_from g bytes first a ++ samples_from g bytes (first + a) b
  samples_on first a b =
      let e : first * width + a * width ≡ (first + a) * width = omega arith in
      samples_add g a b (drop (first * width) taken)
      ∙ ap (λ (l : List ℕ). samples_from g bytes first a ++ samples_in g b l)
      (drop-drop (a * width) (first * width) taken ∙ ap (λ (j : ℕ). drop j taken) e)

  -- some of them lie within the limit that all do
  pub within_part : (limit first i k count : ℕ) → i + k ≤ count → SamplesWithin limit (samples_from g bytes first count)
      → SamplesWithin limit (samples_from g bytes (first + i) k)
  within_part limit first i k count room h j l =
      let inside : j < k = subst (λ (x : ℕ). j < x) (samples_length g k (drop ((first + i) * width) taken)) l in
      let on : first * width + (i + j) * width ≡ (first + i) * width + j * width = omega arith in
      let same : drop ((i + j) * width) (drop (first * width) taken) ≡ drop (j * width) (drop ((first + i) * width) taken) =
      drop-drop ((i + j) * width) (first * width) taken ∙ ap (λ (x : ℕ). drop x taken) on ∙ sym (drop-drop (j * width) ((first + i) * width) taken) in
      let there : get_or (samples_from g bytes first count) (i + j) (pos 0) ≡ get_or (samples_from g bytes (first + i) k) j (pos 0) =
      samples_at g count (i + j) (drop (first * width) taken) (omega (arith, room, inside))
      ∙ ap (λ (m : List ℕ). decoded g (take width m)) same
      ∙ sym (samples_at g k j (drop ((first + i) * width) taken) inside) in
      subst (λ (z : ℤ). mag z < limit) there
      (h (i + j) (subst (λ (x : ℕ). i + j < x) (sym (samples_length g count (drop (first * width) taken))) (omega (arith, room, inside))))

  module _ (whole : InBlocks bytes) (number used i : ℕ) (at : IsAt g number used i)
      (inside : i < (label_start bytes - 1) * g.samples_per_block) where
    pub block_in : number < label_start bytes
    block_in = by (dec_le (label_start bytes) number)
      where
        by : Dec (label_start bytes ≤ number) → number < label_start bytes
        by (yes h) =
            let less : (label_start bytes - 1) * g.samples_per_block ≤ (number - 1) * g.samples_per_block = mul-le-mul_right g.samples_per_block (omega arith) in
            absurd (omega (arith, less, inside, at.counted))
        by (no h) = lt_of_not-le h

    module _ (k : ℕ) (room : used + k ≤ g.samples_per_block) where
      -- where their bytes stand
      bytes_at : part (i * width) (k * width) taken ≡ part (sample_place g number used) (k * width) bytes
      unfolding cell_bytes_in
      bytes_at =
          let u : ℕ = width * used in
          let size : ℕ = sample_size g in
          let e : i * width ≡ (number - 1) * size + u = ap (λ (j : ℕ). j * width) (sym at.counted) ∙ omega arith in
          let last : 1 + (number - 1) ≡ number = omega (arith, at.behind_head) in
          let in_block : 1 + (number - 1) < label_start bytes = omega (arith, block_in, at.behind_head) in
          ap (λ (l : List (List ℕ)). part (i * width) (k * width) (sample_bytes_in g l)) (samples_between bytes whole)
          ∙ ap (λ (j : ℕ). part j (k * width) (sample_bytes_in g (blocks_between bytes 1 (label_start bytes)))) e
          ∙ carried_part size (format_sound four).room bytes whole (label_start bytes) (start_within bytes whole) (number - 1) 1 u (k * width) in_block
          (omega (arith, mul-le-mul_left width room))
          ∙ ap (λ (j : ℕ). part (j * block_size + 4 + u) (k * width) bytes) last

      -- a stretch of samples, by the bytes that stand there
      pub stretch_at : samples_in g k (part (sample_place g number used) (k * width) bytes) ≡ samples_from g bytes i k
      stretch_at = ap (samples_in g k) (sym bytes_at) ∙ sym (samples_first g k (drop (i * width) taken))

    -- one of the first samples
    pub sample_there : (all : ℕ) → i < all
        → get_or (samples_from g bytes 0 all) i (pos 0) ≡ decoded g (part (sample_place g number used) width bytes)
    sample_there all h =
        let none : 0 * width ≡ 0 = omega arith in
        let one : 1 * width ≡ width = omega arith in
        ap (λ (j : ℕ). get_or (samples_in g all (drop j taken)) i (pos 0)) none
        ∙ samples_at g all i taken h
        ∙ ap (λ (j : ℕ). decoded g (part (i * width) j taken)) (sym one)
        ∙ ap (decoded g) (bytes_at 1 (omega (arith, at.within)))
        ∙ ap (λ (j : ℕ). decoded g (part (sample_place g number used) j bytes)) one

-- ---- a trace's samples are within the limits

traces_long : (bytes : List ℕ) → length (sheet_traces bytes) ≡ count_of bytes
unfolding traces_in_blocks
traces_long bytes = pieces_length (size_of bytes) (count_of bytes) _

pub trace_within : (bytes : List ℕ) → SoundSheet bytes → (number : ℕ) → number < count_of bytes
    → SamplesWithin sample_most (samples_from (format_in bytes) bytes (number * size_of bytes) (size_of bytes))
unfolding sample_limit
trace_within bytes s number h =
    let long : number < length (sheet_traces bytes) = omega (arith, h, traces_long bytes) in
    subst (SamplesWithin sample_most) (trace_is (is_wide bytes) bytes number h)
    (inside_limits (get_or (sheet_traces bytes) number [])
    (test_true (are_samples (get_or (sheet_traces bytes) number [])) (from_every are_samples (sheet_traces bytes) s.ranged (in_get_or (sheet_traces bytes) number [] long))))
