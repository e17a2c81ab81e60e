-- What reading's conditions say of a sheet, of any format, where none of them holds.
use Prim.Native.Nat.{ℕ, ◌*◌, ◌/◌, ◌%◌, ◌≤◌, ◌<◌}
use mathlib.Core.Path.{◌≡◌, refl, sym, ◌∙◌, ap, subst}
use mathlib.Core.Bool.{Bool, true, false, not, ◌&&◌, ◌||◌}
use mathlib.Core.Option.{Option, none, some}
use mathlib.Core.List.{List, [], ◌∷◌, ◌++◌, flatten}
use native.Mathlib.Omega.{arith}
use native.Mathlib.Nat.{le_of_eq, mul-mod_left}
use lib.ListN.{length, drop}
use lib.Dec.{T, ltb, eqb, eqb→eq}
use mir.Facts.{and_yes}
use borrow.Author.Tests.{ltb-false, le-ltb, eqb-true, eqb-false, eq-eqb, ne_eqb, not-false}
use Rattle.integer.specs.Words.{same}
use Rattle.integer.proofs.Tests.{eq→eqb, is_true, test_true, clash, neither, and_false}
use Rattle.integer.proofs.Lists.{All, all_none, all_more, all_mono, all_append, all_parts, every_all, all_every, strict}
use Rattle.dstree.specs.Measures.{Trace, Measures, in_range}
use Rattle.dstree.specs.Labels.{Label, are_zero_labels}
use Rattle.dstree.specs.Refusals.{Refusal, first_of}
use Rattle.dstree.specs.Sheet.{are_bytes, part, pieces, Format, block_size, most_blocks, sample_cells, label_cells, letters}
use Rattle.dstree.specs.Sheet.{sample_blocks_needed, label_blocks_needed, blocks_in, carried_in, measures_in, count_in, sample_blocks_in}
use Rattle.dstree.specs.Sheet.{label_blocks_in, zeros_behind, traces_in_blocks, labels_in_blocks, is_wrong_length, are_zero, thirds_in}
use Rattle.dstree.specs.Sheet.{torn_conditions, zeros_in, bad_conditions, conditions_as, Judged, refused, holds, judged_by, library_in}
use Rattle.dstree.specs.Sheet.{judge_as}
use Rattle.dstree.proofs.Conditions.{NoneOf, none_of, of_none}
use Rattle.dstree.proofs.SheetPieces.{AllOfSize, Zeros, pieces_sized, pieces_all, pieces_flatten, flatten_length, flatten_all}
use Rattle.dstree.proofs.SheetFields.{Bytes, bytes_of_lem}

-- ---- zeros

zeros_of : (bs : List ℕ) → T (are_zero bs) → Zeros bs
unfolding are_zero
zeros_of bs t = all_mono (λ b p. eqb→eq b 0 p) (every_all (λ b. eqb b 0) bs t)

are_zero_lem : {bs : List ℕ} → Zeros bs → T (are_zero bs)
unfolding are_zero
are_zero_lem h = all_every (λ b. eqb b 0) (all_mono (λ b p. eq→eqb {a = b} {b = 0} p) h)

-- ---- 10

-- "all its label blocks or none", and not of zero labels alone
pub data LabelBlocks (count : ℕ) (bs : List (List ℕ)) : Type 0 where
  unlabelled : bs ≡ [] → LabelBlocks count bs
  labelled : length bs ≡ label_blocks_needed count → are_zero_labels (labels_in_blocks count bs) ≡ false → LabelBlocks count bs

-- no condition of number 10 holds
pub record GoodSheet (f : Format) (first : List ℕ) (others : List (List ℕ)) : Type 0 where
  pub lettered : part 4 4 first ≡ letters
  pub measured : T (in_range (measures_in first))
  pub counted : count_in first ≤ (measures_in first).capacity
  pub sampled : length (sample_blocks_in others) ≡ sample_blocks_needed f (count_in first) (measures_in first).n
  pub labels_good : LabelBlocks (count_in first) (label_blocks_in others)
  pub third : Zeros (thirds_in (first ∷ others))
  pub head_rest : Zeros (drop 12 (carried_in first))
  pub sample_zeros : Zeros (zeros_behind (sample_cells f) (count_in first * (measures_in first).n) (sample_blocks_in others))
  pub label_zeros : Zeros (zeros_behind label_cells (count_in first) (label_blocks_in others))

same_is : (xs ys : List ℕ) → T (same xs ys) → xs ≡ ys
unfolding same
same_is [] [] t = refl
same_is [] (y ∷ ys) t = absurd t
same_is (x ∷ xs) [] t = absurd t
same_is (x ∷ xs) (y ∷ ys) t = let both = and_yes (eqb x y) (same xs ys) t in rw (eqb→eq x y both.0, same_is xs ys both.1) refl

is_same : (xs : List ℕ) → same xs xs ≡ true
unfolding same
is_same [] = refl
is_same (x ∷ xs) = rw (eq-eqb x x refl, is_same xs) refl

no_length : {A : Type 0} (l : List A) → length l ≡ 0 → l ≡ []
no_length [] e = refl
no_length (x ∷ l) e = absurd (omega arith)

or_true : (a : Bool) → a || true ≡ true
or_true true = refl
or_true false = refl

pub or_second : (a b : Bool) → a || b ≡ true → a ≡ false → b ≡ true
or_second true b e g = clash g
or_second false b e g = e

and_second : (a b : Bool) → not a && b ≡ false → a ≡ false → b ≡ false
and_second true b e g = clash g
and_second false b e g = e

module _ (count : ℕ) (bs : List (List ℕ)) where
  abbrev no_blocks : Bool
  no_blocks = eqb (length bs) 0

  abbrev all_blocks : Bool
  all_blocks = eqb (length bs) (label_blocks_needed count)

  abbrev zero_labels : Bool
  zero_labels = are_zero_labels (labels_in_blocks count bs)

  number_right : LabelBlocks count bs → not (no_blocks || all_blocks) ≡ false
  number_right (unlabelled e) = rw e refl
  number_right (labelled e z) = ap not (ap (λ (b : Bool). no_blocks || b) (eq-eqb (length bs) (label_blocks_needed count) e) ∙ or_true no_blocks)

  not_zero : LabelBlocks count bs → not no_blocks && zero_labels ≡ false
  not_zero (unlabelled e) = rw e refl
  not_zero (labelled e z) = ap (λ (b : Bool). not no_blocks && b) z ∙ and_false (not no_blocks)

  none_or_all : not (no_blocks || all_blocks) ≡ false → not no_blocks && zero_labels ≡ false → LabelBlocks count bs
  none_or_all e z = by no_blocks refl
    where
      by : (b : Bool) → eqb (length bs) 0 ≡ b → LabelBlocks count bs
      by true g = unlabelled (no_length bs (eqb-true (length bs) 0 g))
      by false g =
          labelled (eqb-true (length bs) (label_blocks_needed count) (or_second no_blocks all_blocks (not-false (no_blocks || all_blocks) e) g)) (and_second no_blocks zero_labels z g)

module _ (f : Format) (first : List ℕ) (others : List (List ℕ)) where
  abbrev count : ℕ
  count = count_in first

  abbrev n : ℕ
  n = (measures_in first).n

  abbrev zeros : List ℕ
  zeros = zeros_in f count n first others

  abbrev headed : List ℕ
  headed = thirds_in (first ∷ others) ++ drop 12 (carried_in first)

  abbrev behind : List ℕ
  behind = zeros_behind (sample_cells f) (count * n) (sample_blocks_in others)

  abbrev rest : List ℕ
  rest = zeros_behind label_cells count (label_blocks_in others)

  zeros_apart : zeros ≡ headed ++ behind ++ rest
  unfolding zeros_in
  zeros_apart = refl

  pub good_none : GoodSheet f first others → NoneOf (bad_conditions f (first ∷ others))
  unfolding bad_conditions
  good_none g =
      all_more (ap not (ap (λ (l : List ℕ). same l letters) g.lettered ∙ is_same letters))
      (all_more (ap not (test_true (in_range (measures_in first)) g.measured))
      (all_more (le-ltb (measures_in first).capacity count g.counted)
      (all_more (ap not (eq-eqb (length (sample_blocks_in others)) (sample_blocks_needed f count n) g.sampled))
      (all_more (number_right count (label_blocks_in others) g.labels_good)
      (all_more (not_zero count (label_blocks_in others) g.labels_good)
      (all_more (ap not (test_true (are_zero zeros) (are_zero_lem zero_bytes))) all_none))))))
    where
      zero_bytes : Zeros zeros
      zero_bytes = subst Zeros (sym zeros_apart) (all_append (all_append (all_append g.third g.head_rest) g.sample_zeros) g.label_zeros)

  pub none_good : NoneOf (bad_conditions f (first ∷ others)) → GoodSheet f first others
  unfolding bad_conditions
  none_good (all_more l (all_more r (all_more c (all_more b (all_more d (all_more e (all_more z all_none))))))) =
      let zero : Zeros (headed ++ behind ++ rest) = subst Zeros zeros_apart (zeros_of zeros (is_true (not-false (are_zero zeros) z))) in
      let three = all_parts (headed ++ behind) zero in
      let two = all_parts headed three.0 in
      let one = all_parts (thirds_in (first ∷ others)) two.0 in
      let needed = sample_blocks_needed f count n in
      record {
        lettered = same_is (part 4 4 first) letters (is_true (not-false (same (part 4 4 first) letters) l));
        measured = is_true (not-false (in_range (measures_in first)) r);
        counted = ltb-false (measures_in first).capacity count c;
        sampled = eqb-true (length (sample_blocks_in others)) needed (not-false (eqb (length (sample_blocks_in others)) needed) b);
        labels_good = none_or_all count (label_blocks_in others) d e;
        third = one.0;
        head_rest = one.1;
        sample_zeros = two.1;
        label_zeros = three.1;
      }

-- ---- 8

-- a length that is not wrong
pub record Blocks (size : ℕ) : Type 0 where
  pub some_block : 0 < size / block_size
  pub all_whole : size / block_size * block_size ≡ size
  pub few : size / block_size ≤ most_blocks

pub in_blocks : (size : ℕ) → is_wrong_length size ≡ false → Blocks size
unfolding is_wrong_length
in_blocks size e =
    let two = neither (eqb size 0 || not (eqb (size % block_size) 0)) (ltb most_blocks (size / block_size)) e in
    let one = neither (eqb size 0) (not (eqb (size % block_size) 0)) two.0 in
    let even = eqb-true (size % block_size) 0 (not-false (eqb (size % block_size) 0) one.1) in
    let some = strict {m = 0} {n = size} (omega arith) (λ z. eqb-false size 0 one.0 (sym z)) in
    record {
      some_block = omega (arith, even, some);
      all_whole = omega (arith, even);
      few = ltb-false most_blocks (size / block_size) two.1;
    }

module _ (f : Format) (bs : List (List ℕ)) (s : AllOfSize block_size bs) where
  all_length : length (flatten bs) ≡ length bs * block_size
  all_length = flatten_length block_size s

  right_length : 0 < length bs → length bs ≤ most_blocks → is_wrong_length (length (flatten bs)) ≡ false
  unfolding is_wrong_length
  right_length h k =
      rw (
        ne_eqb (length (flatten bs)) 0 (λ e. omega (arith, all_length)),
        eq-eqb (length (flatten bs) % block_size) 0 (ap (λ (a : ℕ). a % block_size) all_length ∙ mul-mod_left (length bs) block_size),
        le-ltb most_blocks (length (flatten bs) / block_size) (omega (arith, all_length)),
      ) refl

  blocks_in_lem : blocks_in (flatten bs) ≡ bs
  unfolding blocks_in
  blocks_in_lem =
      let e : length (flatten bs) / block_size ≡ length bs = omega (arith, all_length) in
      ap (λ (count : ℕ). pieces block_size count (flatten bs)) e ∙ pieces_flatten block_size s

  -- a sheet of such blocks holds what they say
  pub read : 0 < length bs → length bs ≤ most_blocks → NoneOf (torn_conditions f 0 0 bs) → NoneOf (bad_conditions f bs)
      → judge_as f (flatten bs) ≡ library_in f bs
  unfolding judge_as judged_by conditions_as
  read h k u g =
      rw (blocks_in_lem) (ap (λ (o : Option Refusal). judged_by o (library_in f bs)) (of_none (all_more (right_length h k) (all_append u g))))

-- ---- a sheet that is not refused

-- its blocks
pub record AcceptedSheet (f : Format) (bytes : List ℕ) (bs : List (List ℕ)) : Type 0 where
  pub whole : flatten bs ≡ bytes
  pub sized : AllOfSize block_size bs
  pub each_bytes : All Bytes bs
  pub untorn : NoneOf (torn_conditions f 0 0 bs)
  pub good : NoneOf (bad_conditions f bs)

accepted_sheet : (f : Format) (bytes : List ℕ) → T (are_bytes bytes) → NoneOf (conditions_as f bytes) → AcceptedSheet f bytes (blocks_in bytes)
unfolding conditions_as blocks_in
accepted_sheet f bytes t (all_more l rest) =
    let count : ℕ = length bytes / block_size in
    let c : count * block_size ≡ length bytes = (in_blocks (length bytes) l).all_whole in
    let both = all_parts (torn_conditions f 0 0 (pieces block_size count bytes)) rest in
    record {
      whole = flatten_all block_size count bytes (le_of_eq (sym c));
      sized = pieces_sized block_size count bytes (le_of_eq c);
      each_bytes = pieces_all block_size count (bytes_of_lem bytes t);
      untorn = both.0;
      good = both.1;
    }

pub judged_none : (o : Option Refusal) (otherwise : Judged) (m : Measures) (traces : List Trace) (labels : List Label)
    → judged_by o otherwise ≡ holds m traces labels → (o ≡ none) × (otherwise ≡ holds m traces labels)
unfolding judged_by
judged_none (some r) otherwise m traces labels e = let z : ◌≡◌ {A = ℕ} 0 1 = cc in absurd (omega arith)
judged_none none otherwise m traces labels e = (refl, e)

-- what is said of all that blocks hold, is said of what a sheet holds
module _ (f : Format) (P : Measures → List Trace → List Label → Type 0) (bytes : List ℕ) (t : T (are_bytes bytes))
    (said : (first : List ℕ) (others : List (List ℕ)) → AcceptedSheet f bytes (first ∷ others)
    → P (measures_in first) (traces_in_blocks f (count_in first) (measures_in first).n (sample_blocks_in others))
    (labels_in_blocks (count_in first) (label_blocks_in others))) where
  abbrev Said : Judged → Type 0
  Said (refused r) = ⊥
  Said (holds m traces labels) = P m traces labels

  library_said : (bs : List (List ℕ)) (m : Measures) (traces : List Trace) (labels : List Label) → AcceptedSheet f bytes bs
      → library_in f bs ≡ holds m traces labels → P m traces labels
  unfolding library_in
  library_said [] m traces labels a e = let z : ◌≡◌ {A = ℕ} 0 1 = cc in absurd (omega arith)
  library_said (first ∷ others) m traces labels a e = subst Said e (said first others a)

  pub of_accepted : (m : Measures) (traces : List Trace) (labels : List Label) → judge_as f bytes ≡ holds m traces labels → P m traces labels
  unfolding judge_as
  of_accepted m traces labels e =
      let both = judged_none (first_of (conditions_as f bytes)) (library_in f (blocks_in bytes)) m traces labels e in
      library_said (blocks_in bytes) m traces labels (accepted_sheet f bytes t (none_of (conditions_as f bytes) both.0)) both.1
