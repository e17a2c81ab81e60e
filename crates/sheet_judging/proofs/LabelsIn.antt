-- The labels of a sheet: where each stands, and which are zero.
use Prim.Native.Nat.{ℕ, suc, ◌+◌, ◌*◌, ◌/◌, ◌%◌, ◌≤◌, ◌<◌}
use mathlib.Core.Path.{◌≡◌, refl, sym, ◌∙◌, ap}
use mathlib.Core.Bool.{Bool, true, false, ◌&&◌}
use mathlib.Core.List.{List, [], flatten}
use native.Mathlib.Omega.{arith}
use lib.ListN.{length, get_or, take, drop, length-map, drop_of_length-le, get_or-map}
use lib.Seq.{drop-cons, drop-nil}
use lib.Dec.{eqb}
use borrow.Author.Tests.{eqb-true, eq-eqb, ne_eqb}
use Rattle.integer.specs.Words.{every}
use Rattle.dstree.specs.Labels.{Label, no_label, is_zero_label, are_zero_labels, label_place}
use Rattle.dstree.specs.Sheet.{block_size, part, pieces, number_in, label_cells, cells_size, cell_bytes_in, label_in, labels_in_blocks}
use Rattle.dstree.proofs.SheetPieces.{part_length, pieces_at, pieces_length}
use Rattle.dstree.proofs.SheetFormat.{labels_sound}
use Rattle.dstree.proofs.SheetLabels.{said_place}
use Rattle.sheet_blocks.specs.Blocks.{block_count, InBlocks, later_blocks, label_start}
use Rattle.sheet_blocks.proofs.Places.{block_inside, no_block, labels_between}
use Rattle.sheet_blocks.proofs.Carried.{carried_part}
use Rattle.sheet_judging.specs.LabelBlocks.{label_blocks}

abbrev size : ℕ
size = label_cells.cell_bytes

-- ---- one label

label_got : (count : ℕ) (blocks : List (List ℕ)) (i : ℕ) → i < count
    → get_or (labels_in_blocks count blocks) i no_label ≡ label_in (part (i * size) size (cell_bytes_in label_cells blocks))
unfolding labels_in_blocks label_in number_in
label_got count blocks i h =
    get_or-map label_in (pieces size count (cell_bytes_in label_cells blocks)) i []
    ∙ ap label_in (pieces_at size count (cell_bytes_in label_cells blocks) i h)

none_said : (at : ℕ) → label_in (part at size (cell_bytes_in label_cells [])) ≡ no_label
unfolding cell_bytes_in flatten label_in number_in
none_said at = ap (λ (l : List ℕ). label_in (take size l)) (drop-nil {A = ℕ} at)

none_placed : label_place no_label ≡ 0
unfolding label_place
none_placed = refl

module _ (bytes : List ℕ) (whole : InBlocks bytes) (count i : ℕ) (h : i < count) where
  abbrev labels : List Label
  labels = labels_in_blocks count (label_blocks bytes)

  no_blocks : label_start bytes ≡ block_count bytes → label_blocks bytes ≡ []
  no_blocks e = labels_between bytes whole ∙ no_block bytes (block_count bytes) (label_start bytes) (omega (arith, e))

  -- without blocks of labels
  pub label_none : label_start bytes ≡ block_count bytes → 0 ≡ label_place (get_or labels i no_label)
  label_none e =
      sym (ap label_place (label_got count (label_blocks bytes) i h
      ∙ ap (λ (l : List (List ℕ)). label_in (part (i * size) size (cell_bytes_in label_cells l))) (no_blocks e) ∙ none_said (i * size)) ∙ none_placed)

  -- its bytes
  module _ (inside : label_start bytes + i / label_cells.cells_per_block < block_count bytes) where
    abbrev pub number : ℕ
    number = label_start bytes + i / label_cells.cells_per_block

    abbrev pub place : ℕ
    place = number * block_size + 4 + size * (i % label_cells.cells_per_block)

    pub place_inside : place + size ≤ length bytes
    place_inside = omega (arith, block_inside bytes whole number inside)

    bytes_at : part (i * size) size (cell_bytes_in label_cells (label_blocks bytes)) ≡ part place size bytes
    unfolding cell_bytes_in
    bytes_at =
        let u : ℕ = size * (i % label_cells.cells_per_block) in
        let later : ℕ = i / label_cells.cells_per_block in
        let e : i * size ≡ later * cells_size label_cells + u = omega arith in
        ap (λ (l : List (List ℕ)). part (i * size) size (cell_bytes_in label_cells l)) (labels_between bytes whole)
        ∙ ap (λ (k : ℕ). part k size (cell_bytes_in label_cells (later_blocks bytes (label_start bytes)))) e
        ∙ carried_part (cells_size label_cells) labels_sound.room bytes whole (block_count bytes) (omega arith) later (label_start bytes) u size inside (omega arith)

    pub label_there : number_in (part place size bytes) ≡ label_place (get_or labels i no_label)
    label_there =
        said_place (part place size bytes) (part_length place size bytes place_inside)
        ∙ ap label_place (ap label_in (sym bytes_at) ∙ sym (label_got count (label_blocks bytes) i h))

-- ---- which are zero

module _ (l : Label) where
  place_zero : label_place l ≡ 0 → is_zero_label l ≡ true
  unfolding label_place is_zero_label
  place_zero e =
      let code : l.code ≡ 0 = omega (arith, e) in
      let serial : l.serial ≡ 0 = omega (arith, e) in
      rw (eq-eqb l.code 0 code, eq-eqb l.serial 0 serial) refl

  place_some : (label_place l ≡ 0 → ⊥) → is_zero_label l ≡ false
  unfolding label_place is_zero_label
  place_some f = by (eqb l.code 0) refl
    where
      by : (b : Bool) → eqb l.code 0 ≡ b → (b && eqb l.serial 0) ≡ false
      by false e = refl
      by true e = ne_eqb l.serial 0 (λ z. f (omega (arith, eqb-true l.code 0 e, z)))

module _ (labels : List Label) (i : ℕ) where
  -- those from number i on
  abbrev zeros_from : ℕ → Bool
  zeros_from k = are_zero_labels (drop k labels)

  pub label_some : i < length labels → (label_place (get_or labels i no_label) ≡ 0 → ⊥) → zeros_from i ≡ false
  unfolding every
  label_some h f = rw (drop-cons labels i no_label h, place_some (get_or labels i no_label) f)

  pub label_zero : i < length labels → label_place (get_or labels i no_label) ≡ 0 → zeros_from i ≡ zeros_from (suc i)
  unfolding every
  label_zero h e = rw (drop-cons labels i no_label h, place_zero (get_or labels i no_label) e)

  pub labels_end : length labels ≤ i → zeros_from i ≡ true
  unfolding every
  labels_end h = rw (drop_of_length-le labels {i = i} h)

pub labels_length : (count : ℕ) (blocks : List (List ℕ)) → length (labels_in_blocks count blocks) ≡ count
unfolding labels_in_blocks
labels_length count blocks =
    length-map (pieces size count (cell_bytes_in label_cells blocks)) label_in ∙ pieces_length size count (cell_bytes_in label_cells blocks)
