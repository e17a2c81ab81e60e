-- Labels as bytes: six for each, one label more at a time; and six bytes are two and four.
use mathlib.Core.Path.{◌≡◌, refl, sym, ap, ap₂, ◌∙◌}
use mathlib.Core.List.{List, [], ◌∷◌, ◌++◌, map, flatten, append-nil}
use Prim.Native.Nat.{ℕ, ◌+◌, ◌*◌, ◌/◌, ◌%◌, ◌≤◌, ◌<◌}
use native.Mathlib.Nat.{mul-add-mod_self_left}
use native.Mathlib.Numerals.{add-one}
use native.Mathlib.Omega.{arith}
use mir.Syntax.{w64}
use Rattle.std.specs.Int.{to_le_bytes}
use lib.ListN.{length, get_or, take, drop, length-map}
use lib.Seq.{sets, take-suc, length-take-le}
use Rattle.integer.proofs.Lists.{map_take, flat_append}
use Rattle.integer.proofs.Rows.{map_append}
use Rattle.dstree.specs.Labels.{Label, label_place, label_at}
use Rattle.dstree.specs.Sheet.{part, number_in, bytes_of, label_cells, label_bytes, label_in}
use Rattle.dstree.proofs.SheetFields.{row_length, row_part}
use Rattle.dstree.proofs.SheetLabels.{label_length, said_place}
use Rattle.dstree.proofs.SheetPieces.{part_part, part_length}
use Rattle.sheet.specs.LabelCodes.{label_codes}
use Rattle.sheet.proofs.Laid.{sets_append}
use Rattle.sheet.proofs.SamplesIn.{map_drop}

abbrev width : ℕ
width = label_cells.cell_bytes

abbrev in_row : List Label → List ℕ
in_row labels = flatten (map label_bytes labels)

pub label_codes_length : (places : List ℕ) → length (label_codes places) ≡ length places * width
label_codes_length places =
    row_length label_bytes width label_length (map label_at places) ∙ ap (λ (k : ℕ). k * width) (length-map places label_at)

codes_append : (a b : List ℕ) → label_codes (a ++ b) ≡ label_codes a ++ label_codes b
codes_append a b = ap in_row (map_append label_at a b) ∙ flat_append label_bytes (map label_at a) (map label_at b)

-- the bytes of so many labels from one on
pub label_codes_part : (i count : ℕ) (places : List ℕ)
    → part (i * width) (count * width) (label_codes places) ≡ label_codes (part i count places)
label_codes_part i count places =
    row_part label_bytes width label_length i count (map label_at places)
    ∙ ap in_row (ap (take count) (map_drop label_at i places) ∙ sym (map_take label_at count (drop i places)))

codes_one : (p : ℕ) → label_codes (p ∷ []) ≡ label_bytes (label_at p)
unfolding flatten
codes_one p = append-nil (label_bytes (label_at p))

-- the bytes of one label more, put behind those of the labels before it
pub label_codes_put : (l : List ℕ) (place : ℕ) (places : List ℕ) (j : ℕ) → j < length places
    → sets (sets l place (label_codes (take j places))) (place + 6 * j) (label_bytes (label_at (get_or places j 0)))
    ≡ sets l place (label_codes (take (j + 1) places))
label_codes_put l place places j h =
    let z = label_bytes (label_at (get_or places j 0)) in
    let before = label_codes (take j places) in
    let count : length before ≡ 6 * j = omega (arith, label_codes_length (take j places), length-take-le j places (omega arith)) in
    let more : label_codes (take (j + 1) places) ≡ before ++ z =
    ap label_codes (ap (λ (k : ℕ). take k places) (add-one j) ∙ take-suc places j 0 h)
    ∙ codes_append (take j places) (get_or places j 0 ∷ []) ∙ ap (λ (x : List ℕ). before ++ x) (codes_one (get_or places j 0)) in
    ap (λ (k : ℕ). sets (sets l place before) (place + k) z) (sym count) ∙ sym (sets_append before z l place) ∙ ap (sets l place) (sym more)

-- six bytes are two and four
pub six_is : (l : List ℕ) (place : ℕ) → place + 6 ≤ length l
    → number_in (part place 6 l) ≡ number_in (part place 2 l) + 65536 * number_in (part (place + 2) 4 l)
unfolding label_place label_in
six_is l place h =
    let e : place + 0 ≡ place = omega arith in
    said_place (part place 6 l) (part_length place 6 l h)
    ∙ ap₂ (λ (a b : List ℕ). number_in a + 65536 * number_in b)
    (part_part 0 2 place 6 l (omega arith) ∙ ap (λ (k : ℕ). part k 2 l) e) (part_part 2 4 place 6 l (omega arith))

-- ---- the first six of the eight bytes that the library makes of a label's number

low : (q r : ℕ) {x : ℕ} → x ≡ 256 * q + r → x % 256 ≡ r % 256
low q r e = ap (λ (k : ℕ). k % 256) e ∙ mul-add-mod_self_left 256 q r

-- the bytes of the serial, in what is left of a number behind the code
module _ (w : ℕ) where
  abbrev serial : ℕ
  serial = w % 4294967296

  second : w / 256 % 256 ≡ serial / 256 % 256
  second = low (65536 * (w / 4294967296)) (serial / 256) (omega arith)

  third : w / 65536 % 256 ≡ serial / 256 / 256 % 256
  third = low (256 * (w / 4294967296)) (serial / 256 / 256) (omega arith)

  fourth : w / 16777216 % 256 ≡ serial / 256 / 256 / 256 % 256
  fourth = low (w / 4294967296) (serial / 256 / 256 / 256) (omega arith)

pub first_six : (v : ℕ) → take 6 (to_le_bytes w64 v) ≡ label_bytes (label_at v)
unfolding bytes_of label_bytes label_at
first_six v =
    let w = v / 65536 in
    let one : v % 256 ≡ v % 65536 % 256 = omega arith in
    let two : v / 256 % 256 ≡ v % 65536 / 256 % 256 = low (v / 65536) (v % 65536 / 256) (omega arith) in
    let three : w % 256 ≡ w % 4294967296 % 256 = omega arith in
    let at : (k m : ℕ) → k ≡ m → k % 256 ≡ m % 256 = λ k m e. ap (λ (x : ℕ). x % 256) e in
    let four = at (v / 16777216) (w / 256) (omega arith) ∙ second w in
    let five = at (v / 4294967296) (w / 65536) (omega arith) ∙ third w in
    let six = at (v / 1099511627776) (w / 16777216) (omega arith) ∙ fourth w in
    ap₂ ◌∷◌ one (ap₂ ◌∷◌ two (ap₂ ◌∷◌ three (ap₂ ◌∷◌ four (ap₂ ◌∷◌ five (ap₂ ◌∷◌ six refl)))))
