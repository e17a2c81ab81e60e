-- What a node's record reads as after it was written: a new leaf's, a widened one's, and a leaf's that became inner.
-- The idea: segments are read one by one, each from the five places behind the ones before it, so that reading follows the written list.
use Prim.Native.Nat.{ℕ, suc, ◌+◌, ◌*◌, ◌-◌, ◌≤◌, ◌<◌}
use mathlib.Core.Path.{◌≡◌, refl, sym, ◌∙◌, ap}
use mathlib.Core.List.{List, [], ◌∷◌, ◌++◌, map, flatten}
use native.Mathlib.Omega.{arith}
use lib.ListN.{length, get_or, take, drop, replicate, length-append, length-drop, length-replicate, get_or-append}
use lib.Seq.{length-take-le, drop_at, drop-drop, get_or-take, get_or-drop, get_or-append-add}
use lib.IntN.{ℤ, pos}
use Rattle.integer.specs.Words.{counting}
use Rattle.integer.proofs.Lists.{In, first, later, map_agree}
use Rattle.dstree.specs.Measures.{Trace}
use Rattle.dstree.specs.Node.{Segment, Figure, by_sum, by_scatter, Test, change_all}
use Rattle.dstree.specs.Adding.{widen_segment}
use Rattle.tables.specs.Layout.{kind_place, segments_place, first_place, right_place, segment_at, head_places, segment_places, record_places}
use Rattle.tables.specs.View.{small_of, scatter_in, value_at, small_at, segment_in, segments_in, test_in}
use Rattle.tables.proofs.Small.{small_read}
use Rattle.tables.proofs.Views.{segments_length}
use Rattle.insertion_memory.specs.Records.{segment_fields, fields_of, leaf_record, widen_record, inner_kind, inner_record}
unfoldable pub use Rattle.insertion_memory.specs.Represents.{kind_number}

-- ---- fields

pub fields_length : (l : List Segment) → length (fields_of l) ≡ 5 * length l
unfolding fields_of segment_fields flatten
fields_length [] = refl
fields_length (s ∷ l) = omega (arith, fields_length l)

-- ---- segments

-- every right end is a 16-bit number
abbrev pub SmallEnds : List Segment → Type 0
SmallEnds l = (s : Segment) → In s l → s.end ≤ 65535

segment_is : (s : Segment) {e : ℕ} {ls gs : ℤ} {lv gv : ℕ} → e ≡ s.end → ls ≡ s.least_sum → gs ≡ s.greatest_sum → lv ≡ s.least_scatter → gv ≡ s.greatest_scatter
    → ◌≡◌ {A = Segment} (record { end = e; least_sum = ls; greatest_sum = gs; least_scatter = lv; greatest_scatter = gv }) s
segment_is s a b c d e = rw (a, b, c, d, e)

module _ (r : List ℤ) where
  at_place : (i p : ℕ) {l : List ℤ} → drop (segment_at i) r ≡ l → value_at r (segment_at i + p) ≡ get_or l p (pos 0)
  at_place i p e = sym (get_or-drop (segment_at i) r p (pos 0)) ∙ ap (λ (l : List ℤ). get_or l p (pos 0)) e

  segment_back : (s : Segment) (i : ℕ) (rest : List ℤ) → s.end ≤ 65535 → drop (segment_at i) r ≡ segment_fields s ++ rest → segment_in r i ≡ s
  unfolding segment_in segment_fields
  segment_back s i rest h e =
      let start : segment_at i ≡ segment_at i + 0 = omega arith in
      let end : value_at r (segment_at i) ≡ pos s.end = ap (λ (k : ℕ). value_at r k) start ∙ at_place i 0 e in
      let least : value_at r (segment_at i + 3) ≡ pos s.least_scatter = at_place i 3 e in
      let most : value_at r (segment_at i + 4) ≡ pos s.greatest_scatter = at_place i 4 e in
      segment_is s (ap small_of end ∙ small_read s.end h) (at_place i 1 e) (at_place i 2 e) (ap scatter_in least) (ap scatter_in most)

  -- segments from number i on, as they lie in the record
  segments_from : (l : List Segment) (i : ℕ) (rest : List ℤ) → SmallEnds l → drop (segment_at i) r ≡ fields_of l ++ rest → map (segment_in r) (counting (length l) i) ≡ l
  unfolding counting fields_of segment_fields flatten
  segments_from [] i rest h e = refl
  segments_from (s ∷ l) i rest h e =
      let one : segment_in r i ≡ s = segment_back s i (fields_of l ++ rest) (h s first) e in
      let behind : segment_at (suc i) ≡ segment_at i + 5 = omega arith in
      let next : drop (segment_at (suc i)) r ≡ fields_of l ++ rest = ap (λ (k : ℕ). drop k r) behind ∙ sym (drop-drop 5 (segment_at i) r) ∙ ap (λ (k : List ℤ). drop 5 k) e in
      let others : map (segment_in r) (counting (length l) (suc i)) ≡ l = segments_from l (suc i) rest (λ a k. h a (later k)) next in
      rw (one, others)

  pub segments_back : (l : List Segment) (rest : List ℤ) → SmallEnds l → small_at r segments_place ≡ length l → drop head_places r ≡ fields_of l ++ rest → segments_in r ≡ l
  unfolding segments_in
  segments_back l rest h q e = rw q (segments_from l 0 rest h e)

-- the records' places by the head's, and behind the head

-- ---- a new leaf's record

module _ (l : List Segment) (start : ℕ) where
  leaf_drop : drop head_places (leaf_record l start) ≡ fields_of l ++ replicate (record_places - head_places - segment_places * length l) (pos 0)
  unfolding leaf_record
  leaf_drop = refl

  pub leaf_kind : small_at (leaf_record l start) kind_place ≡ 0
  unfolding leaf_record
  leaf_kind = refl

  pub leaf_first : start ≤ 65535 → small_at (leaf_record l start) first_place ≡ start
  unfolding leaf_record
  leaf_first h = small_read start h

  leaf_count : length l ≤ 16 → small_at (leaf_record l start) segments_place ≡ length l
  unfolding leaf_record
  leaf_count h = small_read (length l) (omega arith)

  pub leaf_segments : length l ≤ 16 → SmallEnds l → segments_in (leaf_record l start) ≡ l
  leaf_segments h g = segments_back (leaf_record l start) l (replicate (record_places - head_places - segment_places * length l) (pos 0)) g (leaf_count h) leaf_drop

  pub leaf_length : length l ≤ 16 → length (leaf_record l start) ≡ record_places
  unfolding leaf_record
  leaf_length h = simp (length-append, length-replicate, fields_length) (omega arith)

-- ---- a widened record

pub change_length : (x : Trace) (first : ℕ) (l : List Segment) → length (change_all (widen_segment x) first l) ≡ length l
unfolding change_all
change_length x start [] = refl
change_length x start (s ∷ l) = ap suc (change_length x (suc s.end) l)

change_ends : (x : Trace) (first : ℕ) (l : List Segment) → SmallEnds l → SmallEnds (change_all (widen_segment x) first l)
unfolding change_all widen_segment
change_ends x start [] h s i = h s i
change_ends x start (a ∷ l) h s first = h a first
change_ends x start (a ∷ l) h s (later i) = change_ends x (suc a.end) l (λ b k. h b (later k)) s i

module _ (x : Trace) (r : List ℤ) (size : length r ≡ record_places) where
  abbrev widened : List Segment
  widened = change_all (widen_segment x) 1 (segments_in r)

  head_size : length (take head_places r) ≡ head_places
  head_size = length-take-le head_places r (omega arith)

  -- the head stays
  pub widen_head : (p : ℕ) → p < head_places → value_at (widen_record x r) p ≡ value_at r p
  unfolding widen_record
  widen_head p h =
      get_or-append (take head_places r) (fields_of widened ++ drop (head_places + segment_places * length widened) r) (pos 0) p (omega (arith, head_size))
      ∙ get_or-take head_places r p (pos 0) h

  widen_drop : drop head_places (widen_record x r) ≡ fields_of widened ++ drop (head_places + segment_places * length widened) r
  unfolding widen_record
  widen_drop = drop_at (take head_places r) (fields_of widened ++ drop (head_places + segment_places * length widened) r) head_places head_size

  pub widen_segments : SmallEnds (segments_in r) → segments_in (widen_record x r) ≡ widened
  widen_segments g =
      segments_back (widen_record x r) widened (drop (head_places + segment_places * length widened) r) (change_ends x 1 (segments_in r) g)
      (ap small_of (widen_head segments_place (omega arith)) ∙ sym (change_length x 1 (segments_in r) ∙ segments_length r)) widen_drop

  pub widen_length : length (segments_in r) ≤ 16 → length (widen_record x r) ≡ record_places
  unfolding widen_record
  widen_length h =
      simp (length-append, length-drop, fields_length, head_size) (omega (arith, change_length x 1 (segments_in r)))

-- ---- a leaf's record that becomes inner

module _ (test : Test) (left right : ℕ) (r : List ℤ) where
  pub inner_kind_lem : small_at (inner_record test left right r) kind_place ≡ kind_number test.figure
  unfolding inner_record inner_kind kind_number
  inner_kind_lem = by test.figure
    where
      by : (f : Figure) → small_of (inner_kind f) ≡ kind_number f
      by by_sum = refl
      by by_scatter = refl

  pub inner_left : left ≤ 65535 → small_at (inner_record test left right r) first_place ≡ left
  unfolding inner_record
  inner_left h = small_read left h

  pub inner_right : right ≤ 65535 → small_at (inner_record test left right r) right_place ≡ right
  unfolding inner_record
  inner_right h = small_read right h

  pub inner_test : test.on.first ≤ 65535 → test.on.last ≤ 65535 → test_in (inner_record test left right r) test.figure ≡ test
  unfolding inner_record test_in
  inner_test h g = rw (small_read test.on.first h, small_read test.on.last g)

  -- its segments stay
  inner_behind : (q m : ℕ) → q ≡ head_places + m → value_at (inner_record test left right r) q ≡ value_at r q
  unfolding inner_record
  inner_behind q m e =
      let head : List ℤ = inner_kind test.figure ∷ value_at r segments_place ∷ pos left ∷ pos right ∷ pos test.on.first ∷ pos test.on.last ∷ test.threshold ∷ [] in
      ap (λ (k : ℕ). value_at (head ++ drop head_places r) k) e ∙ (get_or-append-add head (drop head_places r) m (pos 0) ∙ get_or-drop head_places r m (pos 0)) ∙ ap (λ (k : ℕ). value_at r k) (sym e)

  inner_segment : (i : ℕ) → segment_in (inner_record test left right r) i ≡ segment_in r i
  unfolding segment_in
  inner_segment i = segment_is (segment_in r i)
      (ap small_of (inner_behind (segment_at i) (i * 5) refl))
      (inner_behind (segment_at i + 1) (i * 5 + 1) (omega arith))
      (inner_behind (segment_at i + 2) (i * 5 + 2) (omega arith))
      (ap scatter_in (inner_behind (segment_at i + 3) (i * 5 + 3) (omega arith)))
      (ap scatter_in (inner_behind (segment_at i + 4) (i * 5 + 4) (omega arith)))

  inner_count : small_at (inner_record test left right r) segments_place ≡ small_at r segments_place
  unfolding inner_record
  inner_count = refl

  pub inner_segments : segments_in (inner_record test left right r) ≡ segments_in r
  unfolding segments_in
  inner_segments =
      ap (λ (q : ℕ). map (segment_in (inner_record test left right r)) (counting q 0)) inner_count
      ∙ map_agree (segment_in (inner_record test left right r)) (segment_in r) (counting (small_at r segments_place) 0) (λ i k. inner_segment i)

  pub inner_length : length r ≡ record_places → length (inner_record test left right r) ≡ record_places
  unfolding inner_record
  inner_length e = simp length-drop (omega arith)
