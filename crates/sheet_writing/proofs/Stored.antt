-- Stored traces stand one behind another, so that a sheet takes samples and labels as they stand; and the sheet of the tables' library.
use mathlib.Core.Path.{◌≡◌, refl, sym, ap, ap₂, ◌∙◌}
use mathlib.Core.List.{List, ◌++◌, map, flatten, append_assoc}
use mathlib.Core.Bool.{Bool, true, false}
use Prim.Native.Nat.{ℕ, zero, suc, ◌+◌, ◌*◌}
use native.Mathlib.Nat.{zero-mul, suc-mul}
use native.Mathlib.Omega.{arith}
use lib.IntN.{ℤ}
use lib.ListN.{length, take, drop, length-append}
use lib.Seq.{take-add, drop-drop}
use Rattle.integer.specs.Words.{counting}
use Rattle.segment.specs.Stored.{samples_of}
use Rattle.segment.proofs.Stored.{samples_joined}
use Rattle.dstree.specs.Measures.{Measures, are_within}
use Rattle.dstree.specs.Labels.{Label, are_zero_labels}
use Rattle.dstree.specs.Sheet.{pieces, block_size, Format, narrow_limit, sample_cells, label_cells, label_kind, cells_size, block, blocks_from, head_of, coded_all}
use Rattle.dstree.specs.Sheet.{sample_parts, label_parts, blocks_of, sheet_as, sample_blocks_needed, label_blocks_needed, blocks_needed_as}
use Rattle.dstree.specs.SheetWidths.{all_narrow}
use Rattle.dstree.specs.Book.{over}
use Rattle.dstree.proofs.SheetPieces.{pieces_length, flatten_append}
use Rattle.dstree.proofs.SheetBlocks.{block_length}
use Rattle.dstree.proofs.SheetFormat.{SoundFormat, samples_sound, labels_sound}
use Rattle.dstree.proofs.SheetWritten.{head_length, none_written, all_written, written_length}
use Rattle.sheet.specs.LabelCodes.{label_codes}
use Rattle.sheet.proofs.Within.{within_flatten}
use Rattle.tables.specs.Tables.{Tables, measures_of, trace_count}
use Rattle.tables.specs.View.{trace_in, traces_in, labels_in}
use Rattle.tables.proofs.Views.{traces_size}
use Rattle.sheet_writing.specs.Filled.{with_block, cell_blocks, with_samples, with_label_blocks}
use Rattle.sheet_writing.proofs.BlockByBlock.{blocks_length, head_over, more_over}

flat_from : (samples : List ℤ) (n k a : ℕ) → flatten (map (trace_in samples n) (counting k a)) ≡ samples_of (take (k * n) (drop (a * n) samples))
unfolding flatten counting trace_in
flat_from samples n zero a = ap (λ (i : ℕ). samples_of (take i (drop (a * n) samples))) (sym (zero-mul n))
flat_from samples n (suc k) a =
    let here : List ℤ = drop (a * n) samples in
    ap (λ (l : List ℤ). samples_of (take n here) ++ l)
    (flat_from samples n k (suc a) ∙ ap (λ (i : ℕ). samples_of (take (k * n) (drop i samples))) (suc-mul a n)
    ∙ ap (λ (l : List ℤ). samples_of (take (k * n) l)) (sym (drop-drop n (a * n) samples)))
    ∙ sym (samples_joined (take n here) (take (k * n) (drop n here)))
    ∙ ap samples_of (sym (take-add n (k * n) here) ∙ ap (λ (i : ℕ). take i here) (more k n))
  where
    more : (k n : ℕ) → n + k * n ≡ suc k * n
    more k n = omega arith

module _ (t : Tables) where
  abbrev m : Measures
  m = measures_of t

  abbrev k : ℕ
  k = trace_count t

  -- the samples of all traces
  abbrev all : List ℤ
  all = samples_of (take (k * m.n) t.samples)

  stored_flat : flatten (traces_in t) ≡ all
  unfolding traces_in
  stored_flat =
      flat_from t.samples m.n k 0 ∙ ap (λ (i : ℕ). samples_of (take (k * m.n) (drop i t.samples))) (zero-mul m.n)

  -- all traces fit 16 bits exactly if all their samples do
  pub stored_narrow : all_narrow (traces_in t) ≡ are_within narrow_limit all
  unfolding all_narrow
  stored_narrow = within_flatten narrow_limit (traces_in t) ∙ ap (are_within narrow_limit) stored_flat

  abbrev labels : List Label
  labels = labels_in t

  abbrev pub labelled : ℕ
  labelled = length (label_parts labels)

  abbrev places : List ℕ
  places = take k t.labels

  -- no blocks of labels, or all of them
  labels_are : label_parts labels ≡ pieces (cells_size label_cells) labelled (label_codes places)
  unfolding labels_in pieces
  labels_are = by (are_zero_labels labels) refl
    where
      by : (b : Bool) → are_zero_labels labels ≡ b → label_parts labels ≡ pieces (cells_size label_cells) labelled (label_codes places)
      by true e = none_written labels e ∙ sym (ap (λ (l : List (List ℕ)). pieces (cells_size label_cells) (length l) (label_codes places)) (none_written labels e))
      by false e =
          all_written labels e
          ∙ ap (λ (i : ℕ). pieces (cells_size label_cells) i (label_codes places))
          (sym (ap (λ (l : List (List ℕ)). length l) (all_written labels e)
          ∙ pieces_length (cells_size label_cells) (label_blocks_needed (length labels)) (label_codes places)))

  module _ (f : Format) (half : ℕ) (sound : SoundFormat f half) where
    -- how many blocks of samples
    abbrev sampled : ℕ
    sampled = sample_blocks_needed f k m.n

    abbrev head : List ℕ
    head = block f.head_kind 0 (head_of m k)

    abbrev sample_bytes : List ℕ
    sample_bytes = cell_blocks (sample_cells f) 1 sampled (coded_all f all)

    abbrev label_bytes : List ℕ
    label_bytes = cell_blocks label_cells (1 + sampled) labelled (label_codes places)

    -- the blocks of the tables' library
    sheet_is : sheet_as f m (traces_in t) labels ≡ head ++ sample_bytes ++ label_bytes
    unfolding sheet_as blocks_of flatten
    sheet_is =
        let needed = sample_blocks_needed f (length (traces_in t)) m.n in
        let samples = blocks_from f.sample_kind 1 (sample_parts f m.n (traces_in t)) in
        ap (λ (l : List ℕ). block f.head_kind 0 (head_of m (length (traces_in t))) ++ l)
        (flatten_append samples (blocks_from label_kind (suc needed) (label_parts labels)))
        ∙ ap (λ (l : List (List ℕ)). block f.head_kind 0 (head_of m (length (traces_in t))) ++ (flatten samples ++ flatten (blocks_from label_kind (suc needed) l))) labels_are
        ∙ ap₂ (λ (i : ℕ) (l : List ℤ). block f.head_kind 0 (head_of m i)
        ++ (cell_blocks (sample_cells f) 1 (sample_blocks_needed f i m.n) (coded_all f l)
        ++ flatten (blocks_from label_kind (suc (sample_blocks_needed f i m.n)) (pieces (cells_size label_cells) labelled (label_codes places)))))
        (traces_size t) stored_flat
        ∙ ap (λ (i : ℕ). head ++ (sample_bytes ++ cell_blocks label_cells i labelled (label_codes places))) one_more
        ∙ sym (append_assoc head sample_bytes label_bytes)
      where
        one_more : suc sampled ≡ 1 + sampled
        one_more = omega arith

    -- its length
    pub stored_length : length (sheet_as f m (traces_in t) labels) ≡ block_size * blocks_needed_as f k m.n labels
    stored_length =
        written_length f half sound m (traces_in t) labels ∙ ap (λ (i : ℕ). block_size * blocks_needed_as f i m.n labels) (traces_size t)

    -- what the loops leave is the sheet, with what stood behind it
    pub filled_is : (sheet : List ℕ)
        → with_label_blocks (with_samples f (with_block sheet 0 head) sampled all) (1 + sampled) labelled places ≡ over (sheet_as f m (traces_in t) labels) sheet
    filled_is sheet =
        let headed : length head ≡ block_size = block_length f.head_kind 0 (head_of m k) (omega (arith, head_length m k)) in
        let samples_long : length sample_bytes ≡ block_size * sampled =
        blocks_length (sample_cells f) (samples_sound f half sound) 1 (coded_all f all) sampled in
        let labels_long : length label_bytes ≡ block_size * labelled = blocks_length label_cells labels_sound (1 + sampled) (label_codes places) labelled in
        ap (λ (s : List ℕ). with_label_blocks (with_samples f s sampled all) (1 + sampled) labelled places) (head_over sheet head headed)
        ∙ ap (λ (s : List ℕ). with_label_blocks s (1 + sampled) labelled places)
        (more_over sheet head sample_bytes 1 sampled (omega (arith, headed)) samples_long)
        ∙ more_over sheet (head ++ sample_bytes) label_bytes (1 + sampled) labelled
        (length-append head sample_bytes ∙ omega (arith, headed, samples_long)) labels_long
        ∙ ap (λ (s : List ℕ). over s sheet) (sym sheet_is)
