-- Document 02, §14: a sheet that differs from an accepted one in one byte, or by two unequal bytes of one block in each other's places, is
-- refused with 9 and that block's number. For every way to judge a block by itself and those before it, so for every kind of block; then for
-- reading in any format.
use Prim.Native.Nat.{ℕ, zero, suc, ◌+◌, ◌*◌, ◌/◌, ◌%◌, ◌≤◌, ◌<◌}
use mathlib.Core.Path.{◌≡◌, refl, sym, ◌∙◌, ap, subst}
use mathlib.Core.Logic.{◌≢◌}
use mathlib.Core.Bool.{Bool, true, false, not, ◌||◌}
use mathlib.Core.Option.{Option, some}
use mathlib.Core.List.{List, [], ◌∷◌, ◌++◌, append_assoc}
use native.Mathlib.Omega.{arith}
use native.Mathlib.Decide.{dec_le}
use native.Mathlib.Nat.{lt_of_not-le, zero-add, add-zero}
use lib.ListN.{length, get_or, take, drop, replicate, get_or-eq_default}
use lib.Seq.{ext_get_or, get_or-take}
use lib.Dec.{T, eqb}
use borrow.Author.Tests.{ne_eqb}
use Rattle.integer.proofs.Lists.{same_or_not, all_more, all_take, all_drop, all_parts}
use Rattle.integer.proofs.Tests.{never_both}
use Rattle.dstree.specs.Measures.{Trace, Measures}
use Rattle.dstree.specs.Labels.{Label}
use Rattle.dstree.specs.Refusals.{Refusal, sheet_length, torn_block, Condition, ◌refuses◌, first_of}
use Rattle.dstree.specs.Sheet.{are_bytes, number_in, part, pieces, Format, wide, block_size, blocks_in, kind_in, is_wrong_length, is_kind, is_torn}
use Rattle.dstree.specs.Sheet.{torn_conditions, bad_conditions, conditions_as, holds, judged_by, library_in}
use Rattle.dstree.specs.SheetWidths.{format_by, sheet_of, is_wide, format_in, traces_held, range_conditions, sheet_conditions, judge_sheet}
use Rattle.dstree.specs.Torn.{OneByteDiffers, Exchanged, CannotHide, RefusedFor, TornClaims}
use Rattle.dstree.proofs.Conditions.{NoneOf, none_of}
use Rattle.dstree.proofs.SheetPieces.{pieces_length, pieces_at, part_at, part_length}
use Rattle.dstree.proofs.SheetFields.{Bytes, bytes_of_lem}
use Rattle.dstree.proofs.SheetBytes.{written_bytes}
use Rattle.dstree.proofs.SheetRead.{in_blocks, judged_none}
use Rattle.dstree.proofs.SheetTorn.{is_sealed, one_unseals, two_unseal}
use Rattle.dstree.proofs.RoundTrips.{read_back}

-- ---- the first block at fault

module _ (torn : List (List ℕ) → List ℕ → Bool) where
  -- 9 over all blocks, where a block is judged by itself and the blocks before it, the nearest first
  unfoldable pub torn_behind : List (List ℕ) → List (List ℕ) → List Condition
  torn_behind before [] = []
  torn_behind before (b ∷ rest) = torn before b refuses torn_block (length before) ∷ torn_behind (b ∷ before) rest

-- a block of zeros
abbrev zero_block : List ℕ
zero_block = replicate block_size 0

-- a wrong check is enough; so is a wrong number, and so are zeros
pub record Tells (torn : List (List ℕ) → List ℕ → Bool) : Type 0 where
  pub by_check : (before : List (List ℕ)) (b : List ℕ) → is_sealed b ≡ false → torn before b ≡ true
  pub by_number : (before : List (List ℕ)) (b : List ℕ) → number_in (part 0 2 b) ≢ length before → torn before b ≡ true
  pub by_zeros : (before : List (List ℕ)) → torn before zero_block ≡ true

module _ (torn : List (List ℕ) → List ℕ → Bool) (tells : Tells torn) where
  seal_told : (before : List (List ℕ)) (b : List ℕ) → torn before b ≡ false → is_sealed b ≡ true
  seal_told before b e = by (is_sealed b) refl
    where
      by : (t : Bool) → is_sealed b ≡ t → t ≡ true
      by true s = refl
      by false s = never_both (tells.by_check before b s) e

  number_told : (before : List (List ℕ)) (b : List ℕ) → torn before b ≡ false → number_in (part 0 2 b) ≡ length before
  number_told before b e = by (same_or_not (number_in (part 0 2 b)) (length before))
    where
      by : Dec (number_in (part 0 2 b) ≡ length before) → number_in (part 0 2 b) ≡ length before
      by (yes s) = s
      by (no f) = never_both (tells.by_number before b f) e

  -- where no block is torn, each has a right check ..
  all_sealed : (before bs : List (List ℕ)) → NoneOf (torn_behind torn before bs) → (j : ℕ) → j < length bs → is_sealed (get_or bs j []) ≡ true
  unfolding torn_behind
  all_sealed before [] u j h = absurd (omega arith)
  all_sealed before (b ∷ bs) (all_more u us) zero h = seal_told before b u
  all_sealed before (b ∷ bs) (all_more u us) (suc j) h = all_sealed (b ∷ before) bs us j (omega arith)

  -- .. and its own number
  all_numbered : (before bs : List (List ℕ)) → NoneOf (torn_behind torn before bs) → (j : ℕ) → j < length bs
      → number_in (part 0 2 (get_or bs j [])) ≡ length before + j
  unfolding torn_behind
  all_numbered before [] u j h = absurd (omega arith)
  all_numbered before (b ∷ bs) (all_more u us) zero h = number_told before b u ∙ sym (add-zero (length before))
  all_numbered before (b ∷ bs) (all_more u us) (suc j) h = all_numbered (b ∷ before) bs us j (omega arith) ∙ omega arith

  -- blocks that are the same up to one that is torn
  first_torn : (before bs cs : List (List ℕ)) (j : ℕ) → j < length bs → length cs ≡ length bs
      → ((i : ℕ) → i < j → get_or cs i [] ≡ get_or bs i [])
      → ((front : List (List ℕ)) → length front ≡ length before + j → torn front (get_or cs j []) ≡ true)
      → NoneOf (torn_behind torn before bs)
      → (later : List Condition) → first_of (torn_behind torn before cs ++ later) ≡ some (torn_block (length before + j))
  unfolding torn_behind first_of
  first_torn before [] cs j h l same bad u later = absurd (omega arith)
  first_torn before (b ∷ bs) [] j h l same bad u later = absurd (omega arith)
  first_torn before (b ∷ bs) (c ∷ cs) zero h l same bad (all_more u us) later =
      rw (bad before (sym (add-zero (length before)))) (ap (λ (k : ℕ). some (torn_block k)) (sym (add-zero (length before))))
  first_torn before (b ∷ bs) (c ∷ cs) (suc j) h l same bad (all_more u us) later =
      rw (ap (torn before) here ∙ u)
      (first_torn (c ∷ before) bs cs j (omega arith) (omega arith) (λ i k. same (suc i) (omega arith)) (λ front e. bad front (e ∙ place)) rest later
      ∙ ap (λ (k : ℕ). some (torn_block k)) place)
    where
      here : c ≡ b
      here = same zero (omega arith)

      rest : NoneOf (torn_behind torn (c ∷ before) bs)
      rest = subst (λ (x : List ℕ). NoneOf (torn_behind torn (x ∷ before) bs)) (sym here) us

      place : suc (length before) + j ≡ length before + suc j
      place = omega arith

-- ---- damage in a sheet is damage in a block

-- a block of a sheet
abbrev block_at : List ℕ → ℕ → List ℕ
block_at s j = part (j * block_size) block_size s

-- a place by its block and the place there
placed : (i : ℕ) → i / block_size * block_size + i % block_size ≡ i
placed i = omega arith

within : (i : ℕ) → i % block_size < block_size
within i = omega arith

-- a byte of a sheet, by its block
in_block : (l : List ℕ) (i : ℕ) → get_or (block_at l (i / block_size)) (i % block_size) 0 ≡ get_or l i 0
in_block l i = part_at (i % block_size) (i / block_size * block_size) block_size l 0 (within i) ∙ ap (λ (k : ℕ). get_or l k 0) (placed i)

-- two sheets of one length, in whole blocks
module _ (s t : List ℕ) (as_long : length t ≡ length s) (whole : length s / block_size * block_size ≡ length s) where
  abbrev InSheet : ℕ → Type 0
  InSheet j = j < length s / block_size

  block_in : (i : ℕ) → i < length s → InSheet (i / block_size)
  block_in i h = omega arith

  block_sized : (l : List ℕ) → length l ≡ length s → (j : ℕ) → InSheet j → length (block_at l j) ≡ block_size
  block_sized l e j h = part_length (j * block_size) block_size l (omega arith)

  block_agrees : (j : ℕ) → InSheet j → (i : ℕ) → (i < block_size → get_or t (j * block_size + i) 0 ≡ get_or s (j * block_size + i) 0)
      → get_or (block_at t j) i 0 ≡ get_or (block_at s j) i 0
  block_agrees j h i same = by (dec_le block_size i)
    where
      by : Dec (block_size ≤ i) → get_or (block_at t j) i 0 ≡ get_or (block_at s j) i 0
      by (yes g) =
          get_or-eq_default (block_at t j) 0 {n = i} (omega (arith, block_sized t as_long j h))
          ∙ sym (get_or-eq_default (block_at s j) 0 {n = i} (omega (arith, block_sized s refl j h)))
      by (no g) =
          let k = lt_of_not-le g in
          part_at i (j * block_size) block_size t 0 k ∙ same k ∙ sym (part_at i (j * block_size) block_size s 0 k)

  block_same : (j : ℕ) → InSheet j → ((i : ℕ) → i < block_size → get_or t (j * block_size + i) 0 ≡ get_or s (j * block_size + i) 0)
      → block_at t j ≡ block_at s j
  block_same j h same =
      ext_get_or 0 (block_at t j) (block_at s j) (block_sized t as_long j h ∙ sym (block_sized s refl j h)) (λ i k. block_agrees j h i (same i))

  one_in_block : (place : ℕ) → OneByteDiffers place s t
      → OneByteDiffers (place % block_size) (block_at s (place / block_size)) (block_at t (place / block_size))
  one_in_block place o =
      let j : ℕ = place / block_size in
      let h : InSheet (place / block_size) = block_in place o.inside in
      record {
        as_long = block_sized t as_long j h ∙ sym (block_sized s refl j h);
        inside = rw (block_sized s refl j h) (within place);
        a_byte = rw (in_block t place) o.a_byte;
        differs = λ e. o.differs (sym (in_block t place) ∙ e ∙ in_block s place);
        elsewhere = λ i f. block_agrees j h i
            (λ k. o.elsewhere (j * block_size + i) (λ e. f (omega (arith, placed place, within place))));
      }

  two_in_block : (p q : ℕ) → p / block_size ≡ q / block_size → Exchanged p q s t
      → Exchanged (p % block_size) (q % block_size) (block_at s (p / block_size)) (block_at t (p / block_size))
  two_in_block p q one o =
      let j : ℕ = p / block_size in
      let h : InSheet (p / block_size) = block_in p o.one_inside in
      record {
        as_long = block_sized t as_long j h ∙ sym (block_sized s refl j h);
        one_inside = rw (block_sized s refl j h) (within p);
        other_inside = rw (block_sized s refl j h) (within q);
        unequal = λ e. o.unequal (sym (in_block s p) ∙ e ∙ in_other s);
        there = in_block t p ∙ o.there ∙ sym (in_other s);
        back = in_other t ∙ o.back ∙ sym (in_block s p);
        elsewhere = λ i f g. block_agrees j h i (λ k. o.elsewhere (j * block_size + i)
            (λ e. f (omega (arith, placed p, within p))) (λ e. g (omega (arith, one, placed q, within q))));
      }
    where
      in_other : (l : List ℕ) → get_or (block_at l (p / block_size)) (q % block_size) 0 ≡ get_or l q 0
      in_other l = subst (λ (j : ℕ). get_or (block_at l j) (q % block_size) 0 ≡ get_or l q 0) (sym one) (in_block l q)

-- ---- a sheet that is not refused, and damaged

-- reading's conditions, whatever 8 says of a length, 9 of a block and those before it, and whatever comes behind
module _ (torn : List (List ℕ) → List ℕ → Bool) (tells : Tells torn) (wrong : ℕ → Bool)
    (in_whole : (size : ℕ) → wrong size ≡ false → size / block_size * block_size ≡ size) (later : List ℕ → List Condition) where
  abbrev pub reading_of : List ℕ → List Condition
  reading_of bytes = wrong (length bytes) refuses sheet_length ∷ (torn_behind torn [] (blocks_in bytes) ++ later bytes)

  module _ (s : List ℕ) (h : Bytes s) (u : NoneOf (reading_of s)) where
    right_length : wrong (length s) ≡ false
    right_length = by u
      where
        by : NoneOf (reading_of s) → wrong (length s) ≡ false
        by (all_more l rest) = l

    untorn : NoneOf (torn_behind torn [] (blocks_in s))
    untorn = by u
      where
        by : NoneOf (reading_of s) → NoneOf (torn_behind torn [] (blocks_in s))
        by (all_more l rest) = (all_parts (torn_behind torn [] (blocks_in s)) rest).0

    whole : length s / block_size * block_size ≡ length s
    whole = in_whole (length s) right_length

    block_is : (l : List ℕ) (j : ℕ) → j < length l / block_size → get_or (blocks_in l) j [] ≡ block_at l j
    unfolding blocks_in
    block_is l j k = pieces_at block_size (length l / block_size) l j k

    blocks : (l : List ℕ) → length (blocks_in l) ≡ length l / block_size
    unfolding blocks_in
    blocks l = pieces_length block_size (length l / block_size) l

    -- its blocks
    block_sealed : (j : ℕ) → j < length s / block_size → is_sealed (block_at s j) ≡ true
    block_sealed j k =
        subst (λ (b : List ℕ). is_sealed b ≡ true) (block_is s j k)
        (all_sealed torn tells [] (blocks_in s) untorn j (rw (blocks s) k))

    block_numbered : (j : ℕ) → j < length s / block_size → number_in (part 0 2 (block_at s j)) ≡ j
    block_numbered j k =
        subst (λ (b : List ℕ). number_in (part 0 2 b) ≡ j) (block_is s j k)
        (all_numbered torn tells [] (blocks_in s) untorn j (rw (blocks s) k) ∙ zero-add j)

    -- another sheet, the same before block j, which is torn
    told : (t : List ℕ) (j : ℕ) → length t ≡ length s → j < length s / block_size
        → ((i : ℕ) → i < j * block_size → get_or t i 0 ≡ get_or s i 0)
        → ((front : List (List ℕ)) → length front ≡ j → torn front (block_at t j) ≡ true)
        → first_of (reading_of t) ≡ some (torn_block j)
    unfolding first_of
    told t j l k same bad = rw (ap wrong l ∙ right_length) (found ∙ ap (λ (i : ℕ). some (torn_block i)) (zero-add j))
      where
        there : (front : List (List ℕ)) → length front ≡ 0 + j → torn front (get_or (blocks_in t) j []) ≡ true
        there front e = rw (block_is t j (rw l k)) (bad front (e ∙ zero-add j))

        earlier : (i : ℕ) → i < j → get_or (blocks_in t) i [] ≡ get_or (blocks_in s) i []
        earlier i g =
            let k' : i < length s / block_size = omega arith in
            block_is t i (rw l k')
            ∙ block_same s t l whole i k' (λ x h. same (i * block_size + x) (omega arith))
            ∙ sym (block_is s i k')

        found : first_of (torn_behind torn [] (blocks_in t) ++ later t) ≡ some (torn_block (0 + j))
        found =
            first_torn torn tells [] (blocks_in s) (blocks_in t) j (rw (blocks s) k) (blocks t ∙ ap (λ (n : ℕ). n / block_size) l ∙ sym (blocks s))
            earlier there untorn (later t)

    -- .. for its check
    unsealed : (t : List ℕ) (j : ℕ) → (is_sealed (block_at t j) ≡ true → ⊥) → (front : List (List ℕ)) → length front ≡ j
        → torn front (block_at t j) ≡ true
    unsealed t j broken front e = tells.by_check front (block_at t j) (by (is_sealed (block_at t j)) refl)
      where
        by : (b : Bool) → is_sealed (block_at t j) ≡ b → b ≡ false
        by true g = absurd (broken g)
        by false g = refl

    block_bytes : (j : ℕ) → Bytes (block_at s j)
    block_bytes j = all_take block_size (all_drop (j * block_size) h)

    -- a place before a block is not in it
    not_there : (i place : ℕ) → i < place / block_size * block_size → i ≢ place
    not_there i place h e = omega arith

    pub cannot_hide : CannotHide (λ (bytes : List ℕ) (r : Refusal). first_of (reading_of bytes) ≡ some r) s
    cannot_hide = record {
      one_byte = λ place t o.
          let j : ℕ = place / block_size in
          let k : j < length s / block_size = block_in s t o.as_long whole place o.inside in
          told t j o.as_long k (λ i h. o.elsewhere i (not_there i place h))
          (unsealed t j (one_unseals (block_at s j) (block_at t j) (place % block_size) (block_sized s t o.as_long whole s refl j k) (block_bytes j)
          (one_in_block s t o.as_long whole place o) (block_sealed j k)));
      exchange = λ p q t one o.
          let j : ℕ = p / block_size in
          let k : j < length s / block_size = block_in s t o.as_long whole p o.one_inside in
          told t j o.as_long k
          (λ i h. o.elsewhere i (not_there i p h) (not_there i q (subst (λ (x : ℕ). i < x * block_size) one h)))
          (unsealed t j (two_unseal (block_at s j) (block_at t j) (p % block_size) (q % block_size) (block_sized s t o.as_long whole s refl j k) (block_bytes j)
          (two_in_block s t o.as_long whole p q one o) (block_sealed j k)));
      zeroed = λ j t o. told t j o.as_long o.inside o.before (λ front e. rw o.there (tells.by_zeros front));
      misplaced = λ i j t h f o.
          told t j o.as_long o.inside o.before (λ front e. rw o.there
          (tells.by_number front (block_at s i) (λ g. f (sym (block_numbered i h) ∙ g ∙ e))));
    }

-- where one way to refuse a sheet is another
pub hides_neither : {R S : List ℕ → Refusal → Type 0} {sheet : List ℕ} → ((bytes : List ℕ) (r : Refusal) → R bytes r → S bytes r)
    → CannotHide R sheet → CannotHide S sheet
hides_neither f c = record {
  one_byte = λ place t o. f t (torn_block (place / block_size)) (c.one_byte place t o);
  exchange = λ p q t one o. f t (torn_block (p / block_size)) (c.exchange p q t one o);
  zeroed = λ j t o. f t (torn_block j) (c.zeroed j t o);
  misplaced = λ i j t h n o. f t (torn_block j) (c.misplaced i j t h n o);
}

-- ---- reading, over both widths

-- block 0 of a sheet: of a block and those before it, the nearest first, the last
unfoldable first_block : List ℕ → List (List ℕ) → List ℕ
first_block b [] = b
first_block b (nearest ∷ before) = first_block nearest before

unfoldable kind_before : List (List ℕ) → ℕ
kind_before [] = 0
kind_before (nearest ∷ before) = kind_in nearest

-- 9, of a block behind others, in the format that block 0 says
abbrev torn_in : List (List ℕ) → List ℕ → Bool
torn_in before b = is_torn (format_in (first_block b before)) (kind_before before) (length before) b

-- a test of three that fails is enough
second_fails : (a c : Bool) → not a || true || not c ≡ true
second_fails true c = refl
second_fails false c = refl

third_fails : (a b : Bool) → not a || not b || true ≡ true
third_fails true true = refl
third_fails true false = refl
third_fails false b = refl

-- zero is no kind
no_kind : (w : Bool) (number before : ℕ) → is_kind (format_by w) number before 0 ≡ false
unfolding is_kind
no_kind true zero before = refl
no_kind true (suc number) before = refl
no_kind false zero before = refl
no_kind false (suc number) before = refl

tells : Tells torn_in
unfolding is_torn is_sealed
tells = record {
  by_check = λ before b e. rw e refl;
  by_number = λ before b f.
      rw (ne_eqb (number_in (part 0 2 b)) (length before) f)
      (second_fails (is_sealed b) (is_kind (format_in (first_block b before)) (length before) (kind_before before) (kind_in b)));
  by_zeros = λ before.
      rw (no_kind (is_wide (first_block zero_block before)) (length before) (kind_before before))
      (third_fails (is_sealed zero_block) (eqb (number_in (part 0 2 zero_block)) (length before)));
}

torn_on : (f : Format) (nearest : List ℕ) (before bs : List (List ℕ)) → f ≡ format_in (first_block nearest before)
    → torn_conditions f (kind_in nearest) (suc (length before)) bs ≡ torn_behind torn_in (nearest ∷ before) bs
unfolding torn_conditions torn_behind first_block kind_before
torn_on f nearest before [] e = refl
torn_on f nearest before (b ∷ bs) e =
    let number : ℕ = suc (length before) in
    rw (torn_on f b (nearest ∷ before) bs e)
    (ap (λ (g : Format). is_torn g (kind_in nearest) number b refuses torn_block number ∷ torn_behind torn_in (b ∷ nearest ∷ before) bs) e)

torn_all : (f : Format) (first : List ℕ) (others : List (List ℕ)) → f ≡ format_in first
    → torn_conditions f 0 0 (first ∷ others) ≡ torn_behind torn_in [] (first ∷ others)
unfolding torn_conditions torn_behind first_block kind_before
torn_all f first others e =
    rw (torn_on f first [] others e)
    (ap (λ (g : Format). is_torn g 0 0 first refuses torn_block 0 ∷ torn_behind torn_in (first ∷ []) others) e)

-- a sheet and its block 0 say one format
first_says : (bytes : List ℕ) → format_in bytes ≡ format_in (take block_size bytes)
unfolding is_wide
first_says bytes = ap (λ (kind : ℕ). format_by (eqb kind wide.head_kind)) (sym (get_or-take block_size bytes 2 0 (omega arith)))

torn_pieces : (bytes : List ℕ) (count : ℕ)
    → torn_conditions (format_in bytes) 0 0 (pieces block_size count bytes) ≡ torn_behind torn_in [] (pieces block_size count bytes)
unfolding pieces torn_conditions torn_behind
torn_pieces bytes zero = refl
torn_pieces bytes (suc count) =
    torn_all (format_in bytes) (take block_size bytes) (pieces block_size count (drop block_size bytes)) (first_says bytes)

torn_behind_lem : (bytes : List ℕ) → torn_conditions (format_in bytes) 0 0 (blocks_in bytes) ≡ torn_behind torn_in [] (blocks_in bytes)
unfolding blocks_in
torn_behind_lem bytes = torn_pieces bytes (length bytes / block_size)

in_whole : (size : ℕ) → is_wrong_length size ≡ false → size / block_size * block_size ≡ size
in_whole size e = (in_blocks size e).all_whole

-- 10 and 15
abbrev behind : List ℕ → List Condition
behind bytes =
    bad_conditions (format_in bytes) (blocks_in bytes) ++ range_conditions (is_wide bytes) (traces_held (format_in bytes) (blocks_in bytes))

abbrev read : List ℕ → List Condition
read = reading_of torn_in tells is_wrong_length in_whole behind

reading_is : (bytes : List ℕ) → sheet_conditions bytes ≡ read bytes
unfolding sheet_conditions conditions_as
reading_is bytes =
    ap (λ (l : List Condition). is_wrong_length (length bytes) refuses sheet_length ∷ l)
    (append_assoc (torn_conditions (format_in bytes) 0 0 (blocks_in bytes)) (bad_conditions (format_in bytes) (blocks_in bytes))
    (range_conditions (is_wide bytes) (traces_held (format_in bytes) (blocks_in bytes)))
    ∙ ap (λ (l : List Condition). l ++ behind bytes) (torn_behind_lem bytes))

first_refuses : (bytes : List ℕ) (why : Refusal) → first_of (read bytes) ≡ some why → RefusedFor bytes why
unfolding judge_sheet judged_by
first_refuses bytes why e =
    ap (λ (o : Option Refusal). judged_by o (library_in (format_in bytes) (blocks_in bytes))) (ap first_of (reading_is bytes) ∙ e)

accepted_hides : (bytes : List ℕ) (m : Measures) (traces : List Trace) (labels : List Label) → T (are_bytes bytes)
    → judge_sheet bytes ≡ holds m traces labels → CannotHide RefusedFor bytes
unfolding judge_sheet
accepted_hides bytes m traces labels t e =
    let none_holds = (judged_none (first_of (sheet_conditions bytes)) (library_in (format_in bytes) (blocks_in bytes)) m traces labels e).0 in
    hides_neither first_refuses
    (cannot_hide torn_in tells is_wrong_length in_whole behind bytes (bytes_of_lem bytes t)
    (subst NoneOf (reading_is bytes) (none_of (sheet_conditions bytes) none_holds)))

pub torn_claims : TornClaims
torn_claims = record {
  written = λ m traces labels t u.
      accepted_hides (sheet_of m traces labels) m traces labels (written_bytes m traces labels) (read_back m traces labels t u);
  accepted = accepted_hides;
}
