-- Labels in bytes, there and back; zero labels; a label as one number.
use Prim.Native.Nat.{ℕ, zero, suc, ◌+◌, ◌*◌, ◌/◌, ◌%◌, ◌<◌}
use mathlib.Core.Path.{◌≡◌, refl, sym, ◌∙◌, ap, subst}
use mathlib.Core.Bool.{true}
use mathlib.Core.List.{List, [], ◌∷◌, ◌++◌, map, flatten}
use native.Mathlib.Omega.{arith}
use lib.ListN.{length}
use lib.Dec.{T, ltb, eqb, ltb→lt, lt→ltb, eqb→eq}
use Rattle.integer.specs.Words.{every}
use Rattle.integer.proofs.Tests.{passed, passes, eq→eqb, test_true}
use Rattle.integer.proofs.Lists.{All, all_none, all_more, all_mono, all_take, all_drop, every_all, all_every}
use Rattle.dstree.specs.Labels.{Label, label, no_label, code_limit, serial_limit, is_label, is_zero_label, are_zero_labels, are_labels}
use Rattle.dstree.specs.Labels.{label_place, label_at}
use Rattle.dstree.specs.Sheet.{bytes_of, number_in, part, pieces, label_cells, label_bytes, cell_bytes_in, label_in, labels_in_blocks}
use Rattle.dstree.proofs.SheetPieces.{AllOfSize}
use Rattle.dstree.proofs.SheetFields.{row_sized, Bytes, number_bytes, bytes_number, number_below}

-- a label's numbers are below their limits
pub record LabelFits (l : Label) : Type 0 where
  pub code_fits : l.code < code_limit
  pub serial_fits : l.serial < serial_limit

pub fits_of : (l : Label) → T (is_label l) → LabelFits l
unfolding is_label
fits_of l t =
    let both = passed (ltb l.code code_limit) (ltb l.serial serial_limit ∷ []) t in
    record { code_fits = ltb→lt l.code code_limit both.0; serial_fits = ltb→lt l.serial serial_limit both.1 }

pub fits_is : (l : Label) → LabelFits l → T (is_label l)
unfolding is_label
fits_is l f =
    passes (ltb l.code code_limit) (ltb l.serial serial_limit ∷ [])
    (lt→ltb l.code code_limit f.code_fits, lt→ltb l.serial serial_limit f.serial_fits)

-- a label for each of so many traces
pub record Labels (count : ℕ) (labels : List Label) : Type 0 where
  pub each_one : length labels ≡ count
  pub all_fit : All LabelFits labels

module _ (count : ℕ) (labels : List Label) where
  pub labels_of : T (are_labels count labels) → Labels count labels
  unfolding are_labels
  labels_of t =
      let both = passed (eqb (length labels) count) (every is_label labels ∷ []) t in
      record { each_one = eqb→eq (length labels) count both.0; all_fit = all_mono fits_of (every_all is_label labels both.1) }

  pub labels_are : Labels count labels → T (are_labels count labels)
  unfolding are_labels
  labels_are l =
      passes (eqb (length labels) count) (every is_label labels ∷ [])
      (eq→eqb l.each_one, all_every is_label (all_mono fits_is l.all_fit))

-- ---- bytes

pub label_length : (l : Label) → length (label_bytes l) ≡ label_cells.cell_bytes
unfolding label_bytes bytes_of
label_length l = refl

pub labels_sized : (ls : List Label) → AllOfSize label_cells.cell_bytes (map label_bytes ls)
labels_sized = row_sized label_bytes label_cells.cell_bytes label_length

pub label_back : (l : Label) → LabelFits l → label_in (label_bytes l) ≡ l
unfolding label_in label_bytes bytes_of
label_back l f = λ i. record {
  code = number_bytes 2 l.code f.code_fits i;
  serial = number_bytes 4 l.serial f.serial_fits i;
}

pub labels_back : {ls : List Label} → All LabelFits ls → map label_in (map label_bytes ls) ≡ ls
labels_back all_none = refl
labels_back (all_more {a = l} f fs) = rw (label_back l f, labels_back fs) refl

six : (b : List ℕ) → length b ≡ 6 → Bytes b → bytes_of 2 (number_in (part 0 2 b)) ++ bytes_of 4 (number_in (part 2 4 b)) ≡ b
six [] e h = absurd (omega arith)
six (a ∷ []) e h = absurd (omega arith)
six (a ∷ b ∷ []) e h = absurd (omega arith)
six (a ∷ b ∷ c ∷ []) e h = absurd (omega arith)
six (a ∷ b ∷ c ∷ d ∷ []) e h = absurd (omega arith)
six (a ∷ b ∷ c ∷ d ∷ x ∷ []) e h = absurd (omega arith)
six (a ∷ b ∷ c ∷ d ∷ x ∷ y ∷ []) e h =
    rw (bytes_number {bs = a ∷ b ∷ []} (all_take 2 h), bytes_number {bs = c ∷ d ∷ x ∷ y ∷ []} (all_drop 2 h)) refl
six (a ∷ b ∷ c ∷ d ∷ x ∷ y ∷ z ∷ rest) e h = absurd (omega arith)

module _ (b : List ℕ) (e : length b ≡ label_cells.cell_bytes) (h : Bytes b) where
  pub bytes_back : label_bytes (label_in b) ≡ b
  unfolding label_in label_bytes
  bytes_back = six b e h

  pub read_fits : LabelFits (label_in b)
  unfolding label_in
  read_fits = by b e h
    where
      by : (b : List ℕ) → length b ≡ 6 → Bytes b → LabelFits (label (number_in (part 0 2 b)) (number_in (part 2 4 b)))
      by [] e h = absurd (omega arith)
      by (a ∷ []) e h = absurd (omega arith)
      by (a ∷ b ∷ []) e h = absurd (omega arith)
      by (a ∷ b ∷ c ∷ []) e h = absurd (omega arith)
      by (a ∷ b ∷ c ∷ d ∷ []) e h = absurd (omega arith)
      by (a ∷ b ∷ c ∷ d ∷ x ∷ []) e h = absurd (omega arith)
      by (a ∷ b ∷ c ∷ d ∷ x ∷ y ∷ []) e h = record {
        code_fits = number_below {bs = a ∷ b ∷ []} (all_take 2 h);
        serial_fits = number_below {bs = c ∷ d ∷ x ∷ y ∷ []} (all_drop 2 h);
      }
      by (a ∷ b ∷ c ∷ d ∷ x ∷ y ∷ z ∷ rest) e h = absurd (omega arith)

pub all_bytes_back : {bs : List (List ℕ)} → AllOfSize label_cells.cell_bytes bs → All Bytes bs → map label_bytes (map label_in bs) ≡ bs
all_bytes_back all_none all_none = refl
all_bytes_back (all_more {a = b} e es) (all_more h hs) = rw (bytes_back b e h, all_bytes_back es hs) refl

pub all_read_fit : {bs : List (List ℕ)} → AllOfSize label_cells.cell_bytes bs → All Bytes bs → All LabelFits (map label_in bs)
all_read_fit all_none all_none = all_none
all_read_fit (all_more {a = b} e es) (all_more h hs) = all_more {a = label_in b} (read_fits b e h) (all_read_fit es hs)

-- ---- zero labels

zero_is : (l : Label) → T (is_zero_label l) → l ≡ no_label
unfolding is_zero_label
zero_is l t =
    let both = passed (eqb l.code 0) (eqb l.serial 0 ∷ []) t in
    λ i. record { code = eqb→eq l.code 0 both.0 i; serial = eqb→eq l.serial 0 both.1 i }

-- no bytes say zero labels
zeros_said : {ls : List Label} → All (λ (l : Label). T (is_zero_label l)) ls → map label_in (pieces label_cells.cell_bytes (length ls) []) ≡ ls
unfolding pieces label_in number_in
zeros_said all_none = refl
zeros_said (all_more {a = l} z zs) = rw (zero_is l z, zeros_said zs) refl

said_zero : (count : ℕ) → T (are_zero_labels (map label_in (pieces label_cells.cell_bytes count [])))
unfolding pieces label_in number_in every is_zero_label
said_zero zero = tt
said_zero (suc count) = said_zero count

said_fit : (count : ℕ) → All LabelFits (map label_in (pieces label_cells.cell_bytes count []))
unfolding pieces label_in number_in
said_fit zero = all_none
said_fit (suc count) = all_more {a = no_label} (record { code_fits = omega arith; serial_fits = omega arith }) (said_fit count)

-- without blocks
module _ (count : ℕ) where
  none_are : labels_in_blocks count [] ≡ map label_in (pieces label_cells.cell_bytes count [])
  unfolding labels_in_blocks cell_bytes_in flatten
  none_are = refl

  pub no_blocks_zero : are_zero_labels (labels_in_blocks count []) ≡ true
  no_blocks_zero = ap are_zero_labels none_are ∙ test_true (are_zero_labels (map label_in (pieces label_cells.cell_bytes count []))) (said_zero count)

  pub no_blocks_said : {ls : List Label} → length ls ≡ count → T (are_zero_labels ls) → labels_in_blocks count [] ≡ ls
  no_blocks_said {ls} e t =
      none_are ∙ ap (λ (k : ℕ). map label_in (pieces label_cells.cell_bytes k [])) (sym e) ∙ zeros_said (every_all is_zero_label ls t)

  pub no_blocks_fit : All LabelFits (labels_in_blocks count [])
  no_blocks_fit = subst (All LabelFits) (sym none_are) (said_fit count)

-- ---- a label as one number

eight : (a b c d x y : ℕ) → number_in (a ∷ b ∷ c ∷ d ∷ x ∷ y ∷ []) ≡ number_in (a ∷ b ∷ []) + code_limit * number_in (c ∷ d ∷ x ∷ y ∷ [])
unfolding number_in
eight a b c d x y = omega arith

pub at_place : (l : Label) → LabelFits l → label_at (label_place l) ≡ l
unfolding label_at label_place
at_place l f = λ i. record { code = low i; serial = high i }
  where
    low : (l.code + code_limit * l.serial) % code_limit ≡ l.code
    low = omega (arith, f.code_fits)

    high : (l.code + code_limit * l.serial) / code_limit % serial_limit ≡ l.serial
    high = omega (arith, f.code_fits, f.serial_fits)

-- the number that a label's bytes say is its place
pub said_place : (b : List ℕ) → length b ≡ label_cells.cell_bytes → number_in b ≡ label_place (label_in b)
unfolding label_place label_in
said_place b e = by b e
  where
    by : (b : List ℕ) → length b ≡ 6 → number_in b ≡ number_in (part 0 2 b) + code_limit * number_in (part 2 4 b)
    by [] e = absurd (omega arith)
    by (a ∷ []) e = absurd (omega arith)
    by (a ∷ b ∷ []) e = absurd (omega arith)
    by (a ∷ b ∷ c ∷ []) e = absurd (omega arith)
    by (a ∷ b ∷ c ∷ d ∷ []) e = absurd (omega arith)
    by (a ∷ b ∷ c ∷ d ∷ x ∷ []) e = absurd (omega arith)
    by (a ∷ b ∷ c ∷ d ∷ x ∷ y ∷ []) e = eight a b c d x y
    by (a ∷ b ∷ c ∷ d ∷ x ∷ y ∷ z ∷ rest) e = absurd (omega arith)
