-- Bytes added up by columns: what a row adds, and that the columns of all rows have the total of weighed bytes.
use mathlib.Core.Path.{◌≡◌, refl, sym, ap, ap₂, subst, ◌∙◌}
use mathlib.Core.List.{List, [], ◌∷◌, ◌++◌}
use Prim.Native.Nat.{ℕ, zero, suc, ◌+◌, ◌*◌, ◌-◌, ◌≤◌, ◌<◌}
use native.Mathlib.Nat.{not-suc-le-zero, le_of_suc-le-suc}
use native.Mathlib.Numerals.{add-one}
use native.Mathlib.Omega.{arith}
use lib.ListN.{length, get_or, take, drop, set, replicate, take-append-drop}
use lib.Seq.{take_all, take-take, drop-drop, length-take-le, get_or-drop}
use Rattle.integer.proofs.Lists.{drop_take}
use Rattle.integer.specs.Words.{total}
use Rattle.dstree.specs.Sheet.{part, checked_size, weighted}
use Rattle.dstree.proofs.SheetPieces.{part_length}
use Rattle.sheet.specs.Columns.{columns, added_up, EachAtMost, most_sum, most_later, ColumnSums}

-- ---- numbers with others added

pub added_none : (xs : List ℕ) → added_up xs [] ≡ xs
unfolding added_up
added_none [] = refl
added_none (x ∷ xs) = refl

pub added_length : (xs ys : List ℕ) → length (added_up xs ys) ≡ length xs
unfolding added_up
added_length [] ys = refl
added_length (x ∷ xs) [] = refl
added_length (x ∷ xs) (y ∷ ys) = ap suc (added_length xs ys)

-- behind the first j, nothing is added
pub added_at : (xs ys : List ℕ) (j : ℕ) → get_or (added_up xs (take j ys)) j 0 ≡ get_or xs j 0
unfolding added_up
added_at [] ys j = refl
added_at (x ∷ xs) ys zero = refl
added_at (x ∷ xs) [] (suc j) = refl
added_at (x ∷ xs) (y ∷ ys) (suc j) = added_at xs ys j

-- one more
pub added_more : (xs ys : List ℕ) (j : ℕ) → j < length xs → j < length ys
    → set (added_up xs (take j ys)) j (get_or xs j 0 + get_or ys j 0) ≡ added_up xs (take (suc j) ys)
unfolding added_up
added_more [] ys j h k = absurd (not-suc-le-zero h)
added_more (x ∷ xs) [] j h k = absurd (not-suc-le-zero k)
added_more (x ∷ xs) (y ∷ ys) zero h k = ap (λ (l : List ℕ). (x + y) ∷ l) (sym (added_none xs))
added_more (x ∷ xs) (y ∷ ys) (suc j) h k =
    ap (λ (l : List ℕ). (x + y) ∷ l) (added_more xs ys j (le_of_suc-le-suc h) (le_of_suc-le-suc k))

-- a column before its turn is as it was
module _ {sums later : List ℕ} (p : ColumnSums sums later) where
  pub column_sum : (row : List ℕ) (j : ℕ) {now : List ℕ} → now ≡ added_up sums (take j row)
      → (get_or now j 0 ≡ get_or sums j 0) × (get_or now j 0 ≤ most_sum)
  column_sum row j e =
      let is = ap (λ (xs : List ℕ). get_or xs j 0) e ∙ added_at sums row j in
      (is, omega (arith, is, p.sums_small j))

  pub column_later : (old : List ℕ) (j : ℕ) {now : List ℕ} → now ≡ added_up later (take j old)
      → (get_or now j 0 ≡ get_or later j 0) × (get_or now j 0 ≤ most_later)
  column_later old j e =
      let is = ap (λ (xs : List ℕ). get_or xs j 0) e ∙ added_at later old j in
      (is, omega (arith, is, p.later_small j))

pub total_added : (xs ys : List ℕ) → length ys ≤ length xs → total (added_up xs ys) ≡ total xs + total ys
unfolding added_up total
total_added [] [] h = refl
total_added [] (y ∷ ys) h = absurd (not-suc-le-zero h)
total_added (x ∷ xs) [] h = omega arith
total_added (x ∷ xs) (y ∷ ys) h = omega (arith, total_added xs ys (le_of_suc-le-suc h))

pub weighted_added : (p : ℕ) (xs ys : List ℕ) → length ys ≤ length xs → weighted p (added_up xs ys) ≡ weighted p xs + weighted p ys
unfolding added_up weighted
weighted_added p [] [] h = refl
weighted_added p [] (y ∷ ys) h = absurd (not-suc-le-zero h)
weighted_added p (x ∷ xs) [] h = omega arith
weighted_added p (x ∷ xs) (y ∷ ys) h = omega (arith, weighted_added (suc p) xs ys (le_of_suc-le-suc h))

-- ---- sizes

pub most_added : (a b : ℕ) (xs ys : List ℕ) → EachAtMost a xs → EachAtMost b ys → EachAtMost (a + b) (added_up xs ys)
unfolding added_up
most_added a b [] ys f g i = omega (arith, f i)
most_added a b (x ∷ xs) [] f g i = omega (arith, f i)
most_added a b (x ∷ xs) (y ∷ ys) f g zero = omega (arith, f 0, g 0)
most_added a b (x ∷ xs) (y ∷ ys) f g (suc i) = most_added a b xs ys (λ k. f (suc k)) (λ k. g (suc k)) i

pub most_taken : (a k : ℕ) (xs : List ℕ) → EachAtMost a xs → EachAtMost a (take k xs)
most_taken a zero xs f i = omega arith
most_taken a (suc k) [] f i = f i
most_taken a (suc k) (x ∷ xs) f zero = f 0
most_taken a (suc k) (x ∷ xs) f (suc i) = most_taken a k xs (λ j. f (suc j)) i

-- ---- weights

-- one list behind another
pub weighted_append : (p : ℕ) (xs ys : List ℕ) → weighted p (xs ++ ys) ≡ weighted p xs + weighted (p + length xs) ys
unfolding weighted
weighted_append p [] ys =
    let e : p + 0 ≡ p = omega arith in
    omega (arith, ap (λ (k : ℕ). weighted k ys) e)
weighted_append p (x ∷ xs) ys =
    let e : suc p + length xs ≡ p + suc (length xs) = omega arith in
    omega (arith, weighted_append (suc p) xs ys, ap (λ (k : ℕ). weighted k ys) e)

-- from a row further on, each counts a row's length more
pub weighted_on : (c p : ℕ) (xs : List ℕ) → weighted (p + c) xs ≡ weighted p xs + c * total xs
unfolding weighted total
weighted_on c p [] = omega arith
weighted_on c p (x ∷ xs) =
    let e : suc p + c ≡ suc (p + c) = omega arith in
    omega (arith, weighted_on c (suc p) xs, ap (λ (k : ℕ). weighted k xs) e)

zeros_weigh : (p k : ℕ) → weighted p (replicate k 0) ≡ 0
unfolding weighted
zeros_weigh p zero = refl
zeros_weigh p (suc k) = omega (arith, zeros_weigh (suc p) k)

nothing_total : (xs : List ℕ) → EachAtMost 0 xs → total xs ≡ 0
unfolding total
nothing_total [] f = refl
nothing_total (x ∷ xs) f = omega (arith, f 0, nothing_total xs (λ i. f (suc i)))

-- ---- one more

weighted_suc : (p : ℕ) (l : List ℕ) (j : ℕ) → j < length l → weighted p (take (suc j) l) ≡ weighted p (take j l) + suc (p + j) * get_or l j 0
unfolding weighted
weighted_suc p [] j h = absurd (not-suc-le-zero h)
weighted_suc p (b ∷ l) zero h = omega arith
weighted_suc p (b ∷ l) (suc j) h = omega (arith, weighted_suc (suc p) l j (le_of_suc-le-suc h))

pub weighted_more : (l : List ℕ) (j : ℕ) → j < length l → weighted 0 (take (j + 1) l) ≡ weighted 0 (take j l) + (j + 1) * get_or l j 0
weighted_more l j h = omega (arith, ap (λ (i : ℕ). weighted 0 (take i l)) (add-one j), weighted_suc 0 l j h)

total_suc : (l : List ℕ) (j : ℕ) → j < length l → total (take (suc j) l) ≡ total (take j l) + get_or l j 0
unfolding total
total_suc [] j h = absurd (not-suc-le-zero h)
total_suc (b ∷ l) zero h = omega arith
total_suc (b ∷ l) (suc j) h = omega (arith, total_suc l j (le_of_suc-le-suc h))

pub total_more : (l : List ℕ) (j : ℕ) → j < length l → total (take (j + 1) l) ≡ total (take j l) + get_or l j 0
total_more l j h = omega (arith, ap (λ (i : ℕ). total (take i l)) (add-one j), total_suc l j h)

-- ---- rows, from the last to the first

most_part : (a place k : ℕ) (xs : List ℕ) → EachAtMost a xs → EachAtMost a (part place k xs)
most_part a place k xs f =
    most_taken a k (drop place xs) (λ i. subst (λ (x : ℕ). x ≤ a) (sym (get_or-drop place xs i 0)) (f (place + i)))

most_zeros : (a k : ℕ) → EachAtMost a (replicate k 0)
most_zeros a zero i = omega arith
most_zeros a (suc k) zero = omega arith
most_zeros a (suc k) (suc i) = most_zeros a k i

-- what the columns are once the rows from number k on are taken
pub record RowsTaken (block : List ℕ) (k : ℕ) (sums later : List ℕ) : Type 0 where
  pub sums_long : length sums ≡ columns
  pub later_long : length later ≡ columns
  pub sums_small : EachAtMost (256 * (8 - k)) sums
  pub later_small : EachAtMost (most_sum * (7 - k)) later
  pub weigh : weighted (columns * k) sums + columns * total later
      ≡ weighted (columns * k) (drop (columns * k) (take checked_size block))

-- before any row
pub no_columns : ColumnSums (replicate columns 0) (replicate columns 0)
no_columns =
    record {
      sums_long = refl;
      later_long = refl;
      sums_small = most_zeros most_sum columns;
      later_small = most_zeros most_later columns;
    }

module _ (block : List ℕ) (bytes : EachAtMost 255 block) (long : checked_size ≤ length block) where
  -- no row yet
  abbrev none : List ℕ
  none = replicate columns 0

  -- the last one, which ends with the last byte that is checked
  pub rows_first : RowsTaken block 7 (added_up none (part 448 62 block)) (added_up none (take (length (part 448 62 block)) none))
  rows_first =
      let last = part 448 62 block in
      let size = part_length 448 62 block (omega arith) in
      let nothing = most_taken 0 (length last) none (most_zeros 0 columns) in
      let short : length (take (length last) none) ≤ columns = omega (arith, length-take-le (length last) none (omega (arith, size))) in
      record {
        sums_long = added_length none last;
        later_long = added_length none (take (length last) none);
        sums_small = λ i. omega (arith, most_added 0 255 none last (most_zeros 0 columns) (most_part 255 448 62 block bytes) i);
        later_small = λ i. omega (arith, most_added 0 0 none (take (length last) none) (most_zeros 0 columns) nothing i);
        weigh =
            omega (
              arith,
              weighted_added 448 none last (omega (arith, size)),
              zeros_weigh 448 columns,
              total_added none (take (length last) none) short,
              nothing_total none (most_zeros 0 columns),
              nothing_total (take (length last) none) nothing,
              ap (weighted 448) (drop_take 448 checked_size block),
            );
      }

  -- one before those taken
  module _ (k next : ℕ) (e : next ≡ k + 1) (few : next ≤ 7) (sums later : List ℕ) (r : RowsTaken block next sums later) where
    abbrev row : List ℕ
    row = part (columns * k) columns block

    row_long : length row ≡ columns
    row_long = part_length (columns * k) columns block (omega arith)

    row_bytes : EachAtMost 255 row
    row_bytes = most_part 255 (columns * k) columns block bytes

    -- the most that a column has so far
    abbrev most : ℕ
    most = 256 * (8 - next)

    abbrev most_once : ℕ
    most_once = most_sum * (7 - next)

    all_sums : take (length row) sums ≡ sums
    all_sums = take_all (length row) sums (omega (arith, row_long, r.sums_long))

    to : columns * k + columns ≡ columns * next
    to = omega (arith, e)

    behind : columns * k + length row ≡ columns * k + columns
    behind = ap (λ (i : ℕ). columns * k + i) row_long

    -- the bytes from the row on
    bytes_on : drop (columns * k) (take checked_size block) ≡ row ++ drop (columns * next) (take checked_size block)
    bytes_on =
        let checked = take checked_size block in
        let rest = checked_size - columns * k in
        let whole = take-take columns rest (drop (columns * k) block) (omega (arith, e)) in
        sym (take-append-drop columns (drop (columns * k) checked))
        ∙ ap₂ ◌++◌
        (ap (take columns) (drop_take (columns * k) checked_size block) ∙ whole)
        (drop-drop columns (columns * k) checked ∙ ap (λ (i : ℕ). drop i checked) to)

    pub rows_more : RowsTaken block k (added_up sums row) (added_up later (take (length row) sums))
    rows_more =
        record {
          sums_long = added_length sums row ∙ r.sums_long;
          later_long = added_length later (take (length row) sums) ∙ r.later_long;
          sums_small = λ i. omega (arith, e, most_added most 255 sums row r.sums_small row_bytes i);
          later_small = λ i. rw all_sums (omega (arith, e, most_added most_once most later sums r.later_small r.sums_small i));
          weigh =
              omega (
                arith,
                weighted_added (columns * k) sums row (omega (arith, row_long, r.sums_long)),
                ap (λ (l : List ℕ). total (added_up later l)) all_sums,
                total_added later sums (omega (arith, r.sums_long, r.later_long)),
                weighted_on columns (columns * k) sums,
                ap (λ (i : ℕ). weighted i sums) to,
                r.weigh,
                ap (weighted (columns * k)) bytes_on,
                weighted_append (columns * k) row (drop (columns * next) (take checked_size block)),
                ap (λ (i : ℕ). weighted i (drop (columns * next) (take checked_size block))) (behind ∙ to),
              );
        }
