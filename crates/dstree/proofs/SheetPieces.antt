-- Pieces and parts of a list, cut and put together; bytes filled with zeros up to a size, cut and whole.
use Prim.Native.Nat.{ℕ, zero, suc, ◌+◌, ◌*◌, ◌-◌, ◌≤◌, ◌<◌}
use mathlib.Core.Path.{◌≡◌, refl, sym, ◌∙◌, ap, ap₂, subst}
use mathlib.Core.List.{List, [], ◌∷◌, ◌++◌, map, flatten, append_assoc, append-nil}
use native.Mathlib.Omega.{arith}
use native.Mathlib.Decide.{dec_le}
use native.Mathlib.Nat.{suc-mul, zero-mul, lt_of_not-le, le_of_lt, sub-zero, min-le_left}
use lib.ListN.{length, get_or, take, drop, replicate, length-append, length-take, length-drop}
use lib.ListN.{length-replicate, take-append-drop, replicate-append-replicate, drop_of_length-le}
use lib.Seq.{take_at, drop_at, take_all, take-add, take-take, drop-drop, drop-append-add, get_or-take, get_or-drop, length-take-le}
use Rattle.integer.proofs.Lists.{drop_take, All, all_none, all_more, all_take, all_drop, all_replicate}
use Rattle.dstree.specs.Sheet.{part, pieces, filled_to}

more : (count size : ℕ) → suc count * size ≡ size + count * size
more count size = omega arith

module _ {A : Type 0} where
  -- lists of one size
  abbrev pub AllOfSize : ℕ → List (List A) → Type 0
  AllOfSize size = All (λ (x : List A). length x ≡ size)

  -- ---- pieces

  pub pieces_length : (size count : ℕ) (xs : List A) → length (pieces size count xs) ≡ count
  unfolding pieces
  pieces_length size zero xs = refl
  pieces_length size (suc count) xs = ap suc (pieces_length size count (drop size xs))

  pub pieces_sized : (size count : ℕ) (xs : List A) → count * size ≤ length xs → AllOfSize size (pieces size count xs)
  unfolding pieces
  pieces_sized size zero xs h = all_none
  pieces_sized size (suc count) xs h =
      let h' : size + count * size ≤ length xs = omega arith in
      all_more {a = take size xs} (length-take-le size xs (omega arith))
      (pieces_sized size count (drop size xs) (rw (length-drop size xs) (omega arith)))

  -- where the list ends early, the last pieces are shorter
  pub pieces_at_most : (size count : ℕ) (xs : List A) → All (λ (x : List A). length x ≤ size) (pieces size count xs)
  unfolding pieces
  pieces_at_most size zero xs = all_none
  pieces_at_most size (suc count) xs =
      all_more {a = take size xs} (rw (length-take size xs) (min-le_left size (length xs))) (pieces_at_most size count (drop size xs))

  -- what holds of all elements holds of all in each piece
  pub pieces_all : {P : A → Type 0} (size count : ℕ) {xs : List A} → All P xs → All (All P) (pieces size count xs)
  unfolding pieces
  pieces_all size zero h = all_none
  pieces_all size (suc count) h = all_more (all_take size h) (pieces_all size count (all_drop size h))

  pub flatten_length : (size : ℕ) {xs : List (List A)} → AllOfSize size xs → length (flatten xs) ≡ length xs * size
  unfolding flatten
  flatten_length size all_none = omega arith
  flatten_length size (all_more {a = x} {rest} e es) =
      length-append x (flatten rest) ∙ rw (e, flatten_length size es, suc-mul (length rest) size) (omega arith)

  -- cutting what was put together, with something behind
  pub pieces_flatten_on : (size : ℕ) {xs : List (List A)} (behind : List A) → AllOfSize size xs
      → pieces size (length xs) (flatten xs ++ behind) ≡ xs
  unfolding flatten pieces
  pieces_flatten_on size behind all_none = refl
  pieces_flatten_on size behind (all_more {a = x} {rest} e es) =
      let later = flatten rest ++ behind in
      rw (append_assoc x (flatten rest) behind, take_at x later size e, drop_at x later size e, pieces_flatten_on size behind es) refl

  pub pieces_flatten : (size : ℕ) {xs : List (List A)} → AllOfSize size xs → pieces size (length xs) (flatten xs) ≡ xs
  pieces_flatten size {xs} s =
      subst (λ (l : List A). pieces size (length xs) l ≡ xs) (append-nil (flatten xs)) (pieces_flatten_on size [] s)

  pub flatten_pieces : (size count : ℕ) (xs : List A) → flatten (pieces size count xs) ≡ take (count * size) xs
  unfolding flatten pieces
  flatten_pieces size zero xs = rw (zero-mul size) refl
  flatten_pieces size (suc count) xs =
      ap (λ (l : List A). take size xs ++ l) (flatten_pieces size count (drop size xs)) ∙ sym (take-add size (count * size) xs)
      ∙ ap (λ (k : ℕ). take k xs) (sym (more count size))

  -- pieces that take all
  pub flatten_all : (size count : ℕ) (xs : List A) → length xs ≤ count * size → flatten (pieces size count xs) ≡ xs
  flatten_all size count xs h = flatten_pieces size count xs ∙ take_all (count * size) xs h

  -- ---- the piece at a place

  pub pieces_at : (size count : ℕ) (xs : List A) (i : ℕ) → i < count → get_or (pieces size count xs) i [] ≡ part (i * size) size xs
  unfolding pieces
  pieces_at size zero xs i h = absurd (omega arith)
  pieces_at size (suc count) xs zero h = ap (λ (k : ℕ). part k size xs) (sym (zero-mul size))
  pieces_at size (suc count) xs (suc i) h =
      pieces_at size count (drop size xs) i (omega arith)
      ∙ ap (take size) (drop-drop (i * size) size xs ∙ ap (λ (k : ℕ). drop k xs) (sym (more i size)))

  -- pieces from one on, the first few, and one more
  pub pieces_drop : (size k count : ℕ) (xs : List A) → drop k (pieces size count xs) ≡ pieces size (count - k) (drop (k * size) xs)
  unfolding pieces
  pieces_drop size zero count xs = let e : count - 0 ≡ count = omega arith in rw (e, zero-mul size)
  pieces_drop size (suc k) zero xs = let e : 0 - suc k ≡ 0 = omega arith in rw e
  pieces_drop size (suc k) (suc count) xs =
      let e : suc count - suc k ≡ count - k = omega arith in
      pieces_drop size k count (drop size xs)
      ∙ ap₂ (λ (a : ℕ) (l : List A). pieces size a l) (sym e) (drop-drop (k * size) size xs ∙ ap (λ (i : ℕ). drop i xs) (sym (more k size)))

  pub pieces_take : (size k count : ℕ) (xs : List A) → k ≤ count → take k (pieces size count xs) ≡ pieces size k xs
  unfolding pieces
  pieces_take size zero count xs h = refl
  pieces_take size (suc k) zero xs h = absurd (omega arith)
  pieces_take size (suc k) (suc count) xs h =
      ap (λ (l : List (List A)). take size xs ∷ l) (pieces_take size k count (drop size xs) (omega arith))

  pub pieces_more : (size k : ℕ) (xs : List A) → pieces size (suc k) xs ≡ pieces size k xs ++ (part (k * size) size xs ∷ [])
  unfolding pieces
  pieces_more size zero xs = rw (zero-mul size)
  pieces_more size (suc k) xs =
      ap (λ (l : List (List A)). take size xs ∷ l) (pieces_more size k (drop size xs)
      ∙ ap (λ (l : List A). pieces size k (drop size xs) ++ (take size l ∷ []))
      (drop-drop (k * size) size xs ∙ ap (λ (i : ℕ). drop i xs) (sym (more k size))))

  pub flatten_append : (a b : List (List A)) → flatten (a ++ b) ≡ flatten a ++ flatten b
  unfolding flatten
  flatten_append [] b = refl
  flatten_append (x ∷ a) b = ap (λ (l : List A). x ++ l) (flatten_append a b) ∙ sym (append_assoc x (flatten a) (flatten b))

  -- ---- parts

  pub drop_part : (u place size : ℕ) (l : List A) → drop u (part place size l) ≡ part (place + u) (size - u) l
  drop_part u place size l = drop_take u size (drop place l) ∙ ap (take (size - u)) (drop-drop u place l)

  pub part_part : (a k place size : ℕ) (l : List A) → a + k ≤ size → part a k (part place size l) ≡ part (place + a) k l
  part_part a k place size l h = ap (take k) (drop_part a place size l) ∙ take-take k (size - a) (drop (place + a) l) (omega arith)

  pub part_at : (i place size : ℕ) (l : List A) (d : A) → i < size → get_or (part place size l) i d ≡ get_or l (place + i) d
  part_at i place size l d h = get_or-take size (drop place l) i d h ∙ get_or-drop place l i d

  pub part_length : (place k : ℕ) (xs : List A) → place + k ≤ length xs → length (part place k xs) ≡ k
  part_length place k xs h = length-take-le k (drop place xs) (rw (length-drop place xs) (omega arith))

  pub part_join : (place k more : ℕ) (xs : List A) → part place k xs ++ part (place + k) more xs ≡ part place (k + more) xs
  part_join place k more xs =
      ap (λ (l : List A). part place k xs ++ take more l) (sym (drop-drop k place xs)) ∙ sym (take-add k more (drop place xs))

-- ---- zeros behind

-- all are 0
abbrev pub Zeros : List ℕ → Type 0
Zeros = All (λ (b : ℕ). b ≡ 0)

pub zeros_are : {xs : List ℕ} → Zeros xs → replicate (length xs) 0 ≡ xs
zeros_are all_none = refl
zeros_are (all_more {a = x} e es) = rw (e, zeros_are es) refl

pub filled_length : (size : ℕ) (xs : List ℕ) → length xs ≤ size → length (filled_to size xs) ≡ size
unfolding filled_to
filled_length size xs h =
    length-append xs (replicate (size - length xs) 0) ∙ rw (length-replicate {A = ℕ} (size - length xs) 0) (omega arith)

-- behind the bytes there are zeros; bytes with zeros behind them are such
pub filled_rest : (size k : ℕ) (xs : List ℕ) → length xs ≤ k → Zeros (drop k (filled_to size xs))
unfolding filled_to
filled_rest size k xs h = subst Zeros (sym behind) (all_drop (k - length xs) (all_replicate (size - length xs) 0 refl))
  where
    e : k ≡ length xs + (k - length xs)
    e = omega arith

    behind : drop k (xs ++ replicate (size - length xs) 0) ≡ drop (k - length xs) (replicate (size - length xs) 0)
    behind =
        ap (λ (i : ℕ). drop i (xs ++ replicate (size - length xs) 0)) e
        ∙ drop-append-add xs (replicate (size - length xs) 0) (k - length xs)

pub filled_back : (size k : ℕ) (xs : List ℕ) → length xs ≡ size → k ≤ size → Zeros (drop k xs) → filled_to size (take k xs) ≡ xs
unfolding filled_to
filled_back size k xs e h z =
    ap (λ (l : List ℕ). take k xs ++ l) (ap (λ (n : ℕ). replicate n 0) count ∙ zeros_are z) ∙ take-append-drop k xs
  where
    count : size - length (take k xs) ≡ length (drop k xs)
    count = rw (length-take-le k xs (omega arith), length-drop k xs, e) refl

-- up to a size in two steps
module _ (size k : ℕ) (xs : List ℕ) (h : length xs ≤ k) (g : k ≤ size) where
  in_two : filled_to size xs ≡ filled_to k xs ++ replicate (size - k) 0
  unfolding filled_to
  in_two =
      ap (λ (l : List ℕ). xs ++ l) (ap (λ (n : ℕ). replicate n 0) count ∙ sym (replicate-append-replicate (k - length xs) (size - k) 0))
      ∙ sym (append_assoc xs (replicate (k - length xs) 0) (replicate (size - k) 0))
    where
      count : size - length xs ≡ k - length xs + (size - k)
      count = omega arith

  pub filled_front : take k (filled_to size xs) ≡ filled_to k xs
  filled_front = ap (take k) in_two ∙ take_at (filled_to k xs) (replicate (size - k) 0) k (filled_length k xs h)

  filled_again : (n : ℕ) → length (filled_to k xs) ≡ n → filled_to k xs ++ replicate (size - n) 0 ≡ filled_to size (filled_to k xs)
  unfolding filled_to
  filled_again n e = rw (← e) refl

  pub filled_twice : filled_to size (filled_to k xs) ≡ filled_to size xs
  filled_twice = sym (in_two ∙ filled_again k (filled_length k xs h))

-- a full front, or nothing behind it
fill_full : (k m : ℕ) (a b : List ℕ) → length a ≡ k → filled_to (k + m) (a ++ b) ≡ filled_to k a ++ filled_to m b
unfolding filled_to
fill_full k m a b e =
    append_assoc a b (replicate (k + m - length (a ++ b)) 0)
    ∙ ap (λ (n : ℕ). a ++ (b ++ replicate n 0)) right
    ∙ ap (λ (x : List ℕ). x ++ (b ++ replicate (m - length b) 0)) (sym (append-nil a))
    ∙ ap (λ (n : ℕ). a ++ replicate n 0 ++ (b ++ replicate (m - length b) 0)) left
  where
    right : k + m - length (a ++ b) ≡ m - length b
    right = rw (length-append a b) (omega arith)

    left : 0 ≡ k - length a
    left = omega arith

fill_none : (k m : ℕ) (a b : List ℕ) → length a ≤ k → b ≡ [] → filled_to (k + m) (a ++ b) ≡ filled_to k a ++ filled_to m b
unfolding filled_to
fill_none k m a b h e =
    rw e (rw (append-nil a, sub-zero m)
    (ap (λ (x : List ℕ). a ++ x) (ap (λ (n : ℕ). replicate n 0) count ∙ sym (replicate-append-replicate (k - length a) m 0))
    ∙ sym (append_assoc a (replicate (k - length a) 0) (replicate m 0))))
  where
    count : k + m - length a ≡ k - length a + m
    count = omega arith

fill_cut : (k m : ℕ) (xs : List ℕ) → filled_to (k + m) xs ≡ filled_to k (take k xs) ++ filled_to m (drop k xs)
fill_cut k m xs = ap (filled_to (k + m)) (sym (take-append-drop k xs)) ∙ by (dec_le k (length xs))
  where
    by : Dec (k ≤ length xs) → filled_to (k + m) (take k xs ++ drop k xs) ≡ filled_to k (take k xs) ++ filled_to m (drop k xs)
    by (yes h) = fill_full k m (take k xs) (drop k xs) (length-take-le k xs h)
    by (no f) =
        fill_none k m (take k xs) (drop k xs) (rw (length-take k xs) (min-le_left k (length xs)))
        (drop_of_length-le xs (le_of_lt (lt_of_not-le f)))

-- cutting and filling each piece is filling and cutting
pub fill_pieces : (size count : ℕ) (xs : List ℕ)
    → map (filled_to size) (pieces size count xs) ≡ pieces size count (filled_to (count * size) xs)
unfolding pieces
fill_pieces size zero xs = refl
fill_pieces size (suc count) xs =
    let here = filled_to size (take size xs) in
    let later = filled_to (count * size) (drop size xs) in
    let whole : filled_to (suc count * size) xs ≡ here ++ later =
    ap (λ (k : ℕ). filled_to k xs) (more count size) ∙ fill_cut size (count * size) xs in
    let full : length here ≡ size = filled_length size (take size xs) (rw (length-take size xs) (min-le_left size (length xs))) in
    rw (whole, take_at here later size full, drop_at here later size full, fill_pieces size count (drop size xs)) refl
