-- Fields of a sheet: numbers and samples of any format in bytes, there and back.
use Prim.Native.Nat.{ℕ, zero, suc, ◌+◌, ◌*◌, ◌-◌, ◌/◌, ◌%◌, ◌^◌, ◌≤◌, ◌<◌}
use mathlib.Core.Path.{◌≡◌, refl, sym, ◌∙◌, ap, subst}
use mathlib.Core.List.{List, [], ◌∷◌, ◌++◌, map, flatten}
use native.Mathlib.Omega.{arith}
use native.Mathlib.Decide.{dec_le}
use native.Mathlib.Nat.{pow-succ', lt_of_not-le, le_of_lt, mul-le-mul_right}
use lib.ListN.{length, get_or, take, drop, length-map, take-append-drop, drop_of_length-le}
use lib.Seq.{take_at, drop_at, take_all, length-take-le}
use lib.IntN.{ℤ, pos, negsuc}
use lib.Signed.{mag}
use lib.Dec.{T, ltb, ltb→lt, lt→ltb}
use mir.Facts.{yes_and}
use borrow.Author.Tests.{lt-ltb, le-ltb}
use Rattle.integer.specs.Words.{every}
use Rattle.integer.proofs.Lists.{All, all_none, all_more, all_mono, every_all, flat_append}
use Rattle.dstree.specs.Sheet.{are_bytes, bytes_of, number_in, part, Format, coded, coded_all, decoded}
use Rattle.dstree.proofs.SheetPieces.{AllOfSize, flatten_length}

-- every number of a list is below 256
abbrev pub Bytes : List ℕ → Type 0
Bytes = All (λ (b : ℕ). b < 256)

pub bytes_of_lem : (bs : List ℕ) → T (are_bytes bs) → Bytes bs
unfolding are_bytes
bytes_of_lem bs t = all_mono (λ b p. ltb→lt b 256 p) (every_all (λ b. ltb b 256) bs t)

-- a slice of bytes, each known by its type
pub known_bytes : (l : List ℕ) → ((i : ℕ) → get_or l i 0 < 256) → T (are_bytes l)
unfolding are_bytes every
known_bytes [] h = tt
known_bytes (b ∷ l) h = yes_and (ltb b 256) (are_bytes l) (lt→ltb b 256 (h 0)) (known_bytes l (λ i. h (suc i)))

-- ---- numbers

pub bytes_length : (k v : ℕ) → length (bytes_of k v) ≡ k
unfolding bytes_of
bytes_length zero v = refl
bytes_length (suc k) v = ap suc (bytes_length k (v / 256))

pub number_bytes : (k v : ℕ) → v < 256 ^ k → number_in (bytes_of k v) ≡ v
unfolding bytes_of number_in
number_bytes zero v h = omega arith
number_bytes (suc k) v h =
    let h' : v < 256 * 256 ^ k = subst (λ (x : ℕ). v < x) (pow-succ' 256 k) h in
    ap (λ (x : ℕ). v % 256 + 256 * x) (number_bytes k (v / 256) (omega arith)) ∙ omega arith

head_mod : (b w : ℕ) → b < 256 → (b + 256 * w) % 256 ≡ b
head_mod b w h = omega arith

head_div : (b w : ℕ) → b < 256 → (b + 256 * w) / 256 ≡ w
head_div b w h = omega arith

pub bytes_number : {bs : List ℕ} → Bytes bs → bytes_of (length bs) (number_in bs) ≡ bs
unfolding bytes_of number_in
bytes_number all_none = refl
bytes_number (all_more {a = b} {rest} h hs) = rw (head_mod b (number_in rest) h, head_div b (number_in rest) h, bytes_number hs) refl

pub number_below : {bs : List ℕ} → Bytes bs → number_in bs < 256 ^ length bs
unfolding number_in
number_below all_none = omega arith
number_below (all_more {a = b} {rest} h hs) =
    let k : number_in rest < 256 ^ length rest = number_below hs in
    subst (λ (x : ℕ). b + 256 * number_in rest < x) (sym (pow-succ' 256 (length rest))) (omega arith)

-- bytes that say a number are that number's
pub said : (k v : ℕ) (bs : List ℕ) → length bs ≡ k → Bytes bs → number_in bs ≡ v → bytes_of k v ≡ bs
said k v bs l h e = rw (← l, ← e) (bytes_number h)

-- ---- cells of one size in a row

module _ {A : Type 0} (code : A → List ℕ) (width : ℕ) (sized : (x : A) → length (code x) ≡ width) where
  abbrev row : List A → List ℕ
  row xs = flatten (map code xs)

  pub row_sized : (xs : List A) → AllOfSize width (map code xs)
  row_sized [] = all_none
  row_sized (x ∷ xs) = all_more {a = code x} (sized x) (row_sized xs)

  pub row_length : (xs : List A) → length (row xs) ≡ length xs * width
  row_length xs = flatten_length width (row_sized xs) ∙ ap (λ (k : ℕ). k * width) (length-map xs code)

  -- cut behind k cells: their bytes, and the others'
  module _ (k : ℕ) (xs : List A) where
    cut : row xs ≡ row (take k xs) ++ row (drop k xs)
    cut = ap row (sym (take-append-drop k xs)) ∙ flat_append code (take k xs) (drop k xs)

    long : k ≤ length xs → length (row (take k xs)) ≡ k * width
    long h = row_length (take k xs) ∙ ap (λ (i : ℕ). i * width) (length-take-le k xs h)

    short : length xs ≤ k → length (row xs) ≤ k * width
    short h = omega (arith, row_length xs, mul-le-mul_right width h)

    row_take : take (k * width) (row xs) ≡ row (take k xs)
    row_take = by (dec_le k (length xs))
      where
        by : Dec (k ≤ length xs) → take (k * width) (row xs) ≡ row (take k xs)
        by (yes h) = ap (take (k * width)) cut ∙ take_at (row (take k xs)) (row (drop k xs)) (k * width) (long h)
        by (no g) =
            let h : length xs ≤ k = le_of_lt (lt_of_not-le g) in
            take_all (k * width) (row xs) (short h) ∙ ap row (sym (take_all k xs h))

    row_drop : drop (k * width) (row xs) ≡ row (drop k xs)
    unfolding flatten
    row_drop = by (dec_le k (length xs))
      where
        by : Dec (k ≤ length xs) → drop (k * width) (row xs) ≡ row (drop k xs)
        by (yes h) = ap (drop (k * width)) cut ∙ drop_at (row (take k xs)) (row (drop k xs)) (k * width) (long h)
        by (no g) =
            let h : length xs ≤ k = le_of_lt (lt_of_not-le g) in
            drop_of_length-le (row xs) {i = k * width} (short h) ∙ sym (ap row (drop_of_length-le xs {i = k} h))

  -- the bytes of so many cells from one on
  pub row_part : (i count : ℕ) (xs : List A) → part (i * width) (count * width) (row xs) ≡ row (part i count xs)
  row_part i count xs = ap (take (count * width)) (row_drop i xs) ∙ row_take count (drop i xs)

-- ---- samples of any format

module _ (f : Format) where
  abbrev width : ℕ
  width = f.sample_bytes

  abbrev above : ℕ
  above = 256 ^ f.sample_bytes

  pub coded_length : (z : ℤ) → length (coded f z) ≡ width
  unfolding coded
  coded_length (pos v) = bytes_length width v
  coded_length (negsuc v) = bytes_length width (above - 1 - v)

  -- ---- one behind another

  pub coded_sized : (xs : List ℤ) → AllOfSize width (map (coded f) xs)
  coded_sized = row_sized (coded f) width coded_length

  pub codes_length : (xs : List ℤ) → length (coded_all f xs) ≡ length xs * width
  codes_length = row_length (coded f) width coded_length

  pub codes_append : (a b : List ℤ) → coded_all f (a ++ b) ≡ coded_all f a ++ coded_all f b
  codes_append = flat_append (coded f)

  -- ---- there and back

  decoded_low : (bytes : List ℕ) (v : ℕ) → number_in bytes ≡ v → 2 * v < above → decoded f bytes ≡ pos v
  unfolding decoded
  decoded_low bytes v e h = rw (e, lt-ltb (2 * v) above h) refl

  decoded_high : (bytes : List ℕ) (v : ℕ) → number_in bytes ≡ v → above ≤ 2 * v → decoded f bytes ≡ negsuc (above - 1 - v)
  unfolding decoded
  decoded_high bytes v e h = rw (e, le-ltb (2 * v) above h) refl

back_sub : (m v : ℕ) → v < m → m - 1 - (m - 1 - v) ≡ v
back_sub m v h = omega arith

-- half of the numbers that the bytes can say are for samples from 0 on
module _ (f : Format) (half : ℕ) (halves : 2 * half ≡ 256 ^ f.sample_bytes) where
  -- a sample that the bytes can say
  abbrev pub SampleFits : ℤ → Type 0
  SampleFits z = mag z < half

  pub decoded_coded : (z : ℤ) → SampleFits z → decoded f (coded f z) ≡ z
  unfolding coded
  decoded_coded (pos v) h = decoded_low f (bytes_of (width f) v) v (number_bytes (width f) v (omega arith)) (omega arith)
  decoded_coded (negsuc v) h =
      let w : ℕ = above f - 1 - v in
      decoded_high f (bytes_of (width f) w) w (number_bytes (width f) w (omega arith)) (omega arith)
      ∙ ap negsuc (back_sub (above f) v (omega arith))

  pub decoded_all : {xs : List ℤ} → All SampleFits xs → map (decoded f) (map (coded f) xs) ≡ xs
  decoded_all all_none = refl
  decoded_all (all_more {a = x} {rest} h hs) = rw (decoded_coded x h, decoded_all hs) refl

  module _ (bs : List ℕ) (l : length bs ≡ f.sample_bytes) (h : Bytes bs) where
    below : (v : ℕ) → number_in bs ≡ v → v < above f
    below v e = subst (λ (k : ℕ). v < 256 ^ k) l (subst (λ (x : ℕ). x < 256 ^ length bs) e (number_below h))

    pub decoded_fits : SampleFits (decoded f bs)
    decoded_fits = by (number_in bs) refl (dec_le half (number_in bs))
      where
        by : (v : ℕ) → number_in bs ≡ v → Dec (half ≤ v) → SampleFits (decoded f bs)
        by v e (yes g) = subst SampleFits (sym (decoded_high f bs v e (omega arith))) (omega (arith, below v e))
        by v e (no g) = let k = lt_of_not-le g in subst SampleFits (sym (decoded_low f bs v e (omega arith))) k

    pub coded_decoded : coded f (decoded f bs) ≡ bs
    unfolding coded
    coded_decoded = by (number_in bs) refl (dec_le half (number_in bs))
      where
        by : (v : ℕ) → number_in bs ≡ v → Dec (half ≤ v) → coded f (decoded f bs) ≡ bs
        by v e (yes g) =
            ap (coded f) (decoded_high f bs v e (omega arith)) ∙ ap (bytes_of (width f)) (back_sub (above f) v (below v e))
            ∙ said (width f) v bs l h e
        by v e (no g) = let k = lt_of_not-le g in ap (coded f) (decoded_low f bs v e (omega arith)) ∙ said (width f) v bs l h e

  pub coded_all_lem : {bs : List (List ℕ)} → AllOfSize f.sample_bytes bs → All Bytes bs → map (coded f) (map (decoded f) bs) ≡ bs
  coded_all_lem all_none all_none = refl
  coded_all_lem (all_more {a = b} e es) (all_more h hs) = rw (coded_decoded b e h, coded_all_lem es hs) refl

  pub decoded_all_fit : {bs : List (List ℕ)} → AllOfSize f.sample_bytes bs → All Bytes bs → All SampleFits (map (decoded f) bs)
  decoded_all_fit all_none all_none = all_none
  decoded_all_fit (all_more {a = b} e es) (all_more h hs) = all_more {a = decoded f b} (decoded_fits b e h) (decoded_all_fit es hs)
