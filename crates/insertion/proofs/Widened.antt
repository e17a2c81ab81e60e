-- How a record is widened place by place: four stores make a segment the widened one (`stored`), and after i segments the record is partly
-- widened (`partly`). Behind those it is as it was, so that the next segment is still the one of the record at first.
use mathlib.Core.Path.{◌≡◌, refl, sym, ap, subst, ◌∙◌}
use mathlib.Core.List.{List, [], ◌∷◌, ◌++◌, map, flatten, append_assoc, append-nil}
use Prim.Native.Nat.{ℕ, zero, suc, ◌+◌, ◌*◌, ◌^◌, ◌≤◌, ◌<◌, min, max}
use native.Mathlib.Omega.{arith}
use lib.IntN.{ℤ, pos}
use lib.ListN.{length, get_or, set, take, drop, length-append, length-drop, take-append-drop}
use lib.Seq.{sets-eq, get_or-set_other, set-get_or, take_at, drop_at, drop-drop, get_or-append-add, get_or-drop, length-take-le}
use Rattle.integer.specs.Words.{counting, lesser, greater}
use Rattle.integer.proofs.Lists.{lesser_pos, greater_pos}
use Rattle.dstree.specs.Measures.{Trace}
use Rattle.dstree.specs.Figures.{Run, run, sum_on, scatter_on}
use Rattle.dstree.specs.Node.{Segment, change_all}
use Rattle.dstree.specs.Adding.{widen_segment}
use Rattle.tables.specs.Layout.{segments_place, head_places, segment_places, segment_at, record_places}
use Rattle.tables.specs.View.{small_of, scatter_in, value_at, small_at, segment_in, segments_in}
use Rattle.tables.specs.Runs.{Inside}
use Rattle.tables.proofs.Small.{small_back, scatter_back}
use Rattle.insertion_memory.specs.Records.{segment_fields, fields_of, widen_record}
use Rattle.insertion.specs.Widening.{range_with, with_segment, end_in, start_in, SegmentReadable}

-- ---- four stores behind a place that stays

pub stored : (r : List ℤ) (p q₁ q₂ q₃ q₄ : ℕ) (a b c d : ℤ) → p + 5 ≤ length r → q₁ ≡ p + 1 → q₂ ≡ p + 2 → q₃ ≡ p + 3 → q₄ ≡ p + 4
    → set (set (set (set r q₁ a) q₂ b) q₃ c) q₄ d ≡ take p r ++ ((get_or r p (pos 0) ∷ a ∷ b ∷ c ∷ d ∷ []) ++ drop (p + 5) r)
stored r p q₁ q₂ q₃ q₄ a b c d h e₁ e₂ e₃ e₄ =
    let f₁ : q₁ ≡ suc p = omega arith in
    let f₂ : q₂ ≡ suc (suc p) = omega arith in
    let f₃ : q₃ ≡ suc (suc (suc p)) = omega arith in
    let f₄ : q₄ ≡ suc (suc (suc (suc p))) = omega arith in
    rw (f₁, f₂, f₃, f₄)
    (ap (λ (l : List ℤ). set (set (set (set l (suc p) a) (suc (suc p)) b) (suc (suc (suc p))) c) (suc (suc (suc (suc p)))) d) (sym (set-get_or r p (pos 0)))
    ∙ (sets-eq (get_or r p (pos 0) ∷ a ∷ b ∷ c ∷ d ∷ []) r p h ∙ append_assoc (take p r) (get_or r p (pos 0) ∷ a ∷ b ∷ c ∷ d ∷ []) (drop (p + 5) r)))

-- ---- a segment, widened in place

later : (r : List ℤ) (p q : ℕ) (a b : ℤ) (k : ℕ) → p < k → q < k → value_at (set (set r p a) q b) k ≡ value_at r k
later r p q a b k g h = get_or-set_other (set r p a) q k b (pos 0) (λ e. omega arith) ∙ get_or-set_other r p k a (pos 0) (λ e. omega arith)

fields : {e e' a b b' c c' d d' : ℤ} → e ≡ e' → b ≡ b' → c ≡ c' → d ≡ d' → ◌≡◌ {A = List ℤ} (e ∷ a ∷ b ∷ c ∷ d ∷ []) (e' ∷ a ∷ b' ∷ c' ∷ d' ∷ [])
fields p q u v = cc

module _ (r : List ℤ) (i first n : ℕ) (narrow : n ≤ 256) (size : length r ≡ record_places) (h : i < 16) (ok : SegmentReadable r i first n) (x : Trace) where
  abbrev on : Run
  on = run first (end_in r i)

  abbrev place : ℕ
  place = segment_at i

  abbrev sums : List ℤ
  sums = range_with r (place + 1) (sum_on on x)

  pub widened_stored : range_with sums (place + 3) (pos (scatter_on on x)) ≡ with_segment r i (widen_segment x on (segment_in r i))
  unfolding with_segment widen_segment segment_fields segment_in
  widened_stored =
      let v = scatter_on on x in
      let low = value_at r (place + 3) in
      let high = value_at r (place + 4) in
      let greatest_place : place + 1 + 1 ≡ place + 2 = omega arith in
      let high_place : place + 3 + 1 ≡ place + 4 = omega arith in
      let end_back : value_at r place ≡ pos (end_in r i) = sym (small_back (value_at r place) (omega (arith, ok.on.to_n, narrow))) in
      let greatest : greater (value_at r (place + 1 + 1)) (sum_on on x) ≡ greater (value_at r (place + 2)) (sum_on on x) = rw greatest_place in
      let least_scatter_lem : lesser (value_at sums (place + 3)) (pos v) ≡ pos (min (scatter_in low) v) =
      ap (λ (z : ℤ). lesser z (pos v)) (later r (place + 1) (place + 1 + 1) (lesser (value_at r (place + 1)) (sum_on on x)) (greater (value_at r (place + 1 + 1)) (sum_on on x))
      (place + 3) (omega arith) (omega arith)
      ∙ sym (scatter_back low ok.least_scatter_lem))
      ∙ lesser_pos (scatter_in low) v in
      let greatest_scatter_lem : greater (value_at sums (place + 3 + 1)) (pos v) ≡ pos (max (scatter_in high) v) =
      ap (λ (z : ℤ). greater z (pos v)) (later r (place + 1) (place + 1 + 1) (lesser (value_at r (place + 1)) (sum_on on x)) (greater (value_at r (place + 1 + 1)) (sum_on on x))
      (place + 3 + 1) (omega arith) (omega arith)
      ∙ (ap (value_at r) high_place ∙ sym (scatter_back high ok.greatest_scatter_lem)))
      ∙ greater_pos (scatter_in high) v in
      stored r place (place + 1) (place + 1 + 1) (place + 3) (place + 3 + 1)
      (lesser (value_at r (place + 1)) (sum_on on x)) (greater (value_at r (place + 1 + 1)) (sum_on on x)) (lesser (value_at sums (place + 3)) (pos v))
      (greater (value_at sums (place + 3 + 1)) (pos v))
      (omega arith) refl (omega arith) refl (omega arith)
      ∙ ap (λ (l : List ℤ). take place r ++ (l ++ drop (place + 5) r)) (fields end_back greatest least_scatter_lem greatest_scatter_lem)

-- ---- a record whose first i segments are widened

abbrev pub widened_in : Trace → List ℤ → ℕ → Segment
widened_in x r i = widen_segment x (run (start_in r i) (end_in r i)) (segment_in r i)

abbrev front : Trace → List ℤ → ℕ → List ℤ
front x r zero = take head_places r
front x r (suc i) = front x r i ++ segment_fields (widened_in x r i)

abbrev pub partly : Trace → List ℤ → ℕ → List ℤ
partly x r i = front x r i ++ drop (segment_at i) r

pub partly_none : (x : Trace) (r : List ℤ) → partly x r 0 ≡ r
partly_none x r = take-append-drop head_places r

module _ (x : Trace) (r : List ℤ) where
  front_length : (i : ℕ) → segment_at i ≤ length r → length (front x r i) ≡ segment_at i
  unfolding segment_fields
  front_length zero h = length-take-le head_places r (omega arith)
  front_length (suc i) h = length-append (front x r i) (segment_fields (widened_in x r i)) ∙ omega (arith, front_length i (omega arith))

  pub partly_length : (i : ℕ) → segment_at i ≤ length r → length (partly x r i) ≡ length r
  partly_length i h = simp (length-append, length-drop, front_length i h) (omega arith)

  module _ (i : ℕ) (h : segment_at (suc i) ≤ length r) where
    front_is : length (front x r i) ≡ segment_at i
    front_is = front_length i (omega arith)

    place_later : (j : ℕ) → value_at (partly x r i) (segment_at i + j) ≡ value_at r (segment_at i + j)
    place_later j =
        subst (λ (n : ℕ). get_or (partly x r i) (n + j) (pos 0) ≡ get_or (drop (segment_at i) r) j (pos 0)) front_is (get_or-append-add (front x r i) (drop (segment_at i) r) j (pos 0))
        ∙ get_or-drop (segment_at i) r j (pos 0)

    place_first : value_at (partly x r i) (segment_at i) ≡ value_at r (segment_at i)
    place_first = let e : segment_at i ≡ segment_at i + 0 = omega arith in subst (λ (n : ℕ). value_at (partly x r i) n ≡ value_at r n) (sym e) (place_later 0)

    pub end_later : end_in (partly x r i) i ≡ end_in r i
    end_later = ap small_of place_first

    pub segment_later : segment_in (partly x r i) i ≡ segment_in r i
    unfolding segment_in
    segment_later = rw (place_first, place_later 1, place_later 2, place_later 3, place_later 4)

    pub readable_later : (first n : ℕ) → SegmentReadable r i first n → SegmentReadable (partly x r i) i first n
    readable_later first n ok = record {
      on = subst (λ (end : ℕ). Inside n first end) (sym end_later) ok.on;
      least_scatter_lem = subst (λ (s : Segment). s.least_scatter ≤ 2 ^ 54) (sym segment_later) ok.least_scatter_lem;
      greatest_scatter_lem = subst (λ (s : Segment). s.greatest_scatter ≤ 2 ^ 54) (sym segment_later) ok.greatest_scatter_lem;
    }

    pub partly_more : with_segment (partly x r i) i (widened_in x r i) ≡ partly x r (suc i)
    unfolding with_segment
    partly_more =
        let d = drop (segment_at i) r in
        let e : segment_at i + segment_places ≡ segment_at (suc i) = omega arith in
        let behind : drop (segment_at i + segment_places) (front x r i ++ d) ≡ drop (segment_at (suc i)) r =
        sym (drop-drop segment_places (segment_at i) (front x r i ++ d))
        ∙ (ap (drop segment_places) (drop_at (front x r i) d (segment_at i) front_is)
        ∙ (drop-drop segment_places (segment_at i) r ∙ ap (λ (n : ℕ). drop n r) e)) in
        rw (take_at (front x r i) d (segment_at i) front_is, behind)
        (sym (append_assoc (front x r i) (segment_fields (widened_in x r i)) (drop (segment_at (suc i)) r)))

  -- ---- all of them

  front_all : (k a : ℕ) → front x r a ++ fields_of (change_all (widen_segment x) (start_in r a) (map (segment_in r) (counting k a))) ≡ front x r (a + k)
  unfolding fields_of change_all counting segment_in flatten
  front_all zero a = let e : a ≡ a + 0 = omega arith in append-nil (front x r a) ∙ ap (front x r) e
  front_all (suc k) a =
      let e : suc a + k ≡ a + suc k = omega arith in
      sym (append_assoc (front x r a) (segment_fields (widened_in x r a)) (fields_of (change_all (widen_segment x) (start_in r (suc a)) (map (segment_in r) (counting k (suc a))))))
      ∙ (front_all k (suc a) ∙ ap (front x r) e)

  count_all : (k a first : ℕ) → length (change_all (widen_segment x) first (map (segment_in r) (counting k a))) ≡ k
  unfolding change_all counting
  count_all zero a first = refl
  count_all (suc k) a first = ap suc (count_all k (suc a) (suc (segment_in r a).end))

  pub partly_all : partly x r (small_at r segments_place) ≡ widen_record x r
  unfolding widen_record segments_in
  partly_all =
      let k = small_at r segments_place in
      let widened = change_all (widen_segment x) 1 (map (segment_in r) (counting k 0)) in
      let e : segment_at k ≡ head_places + segment_places * length widened = omega (arith, count_all k 0 1) in
      let f : 0 + k ≡ k = omega arith in
      ap (λ (l : List ℤ). l ++ drop (segment_at k) r) (sym (front_all k 0 ∙ ap (front x r) f))
      ∙ (append_assoc (take head_places r) (fields_of widened) (drop (segment_at k) r)
      ∙ ap (λ (n : ℕ). take head_places r ++ (fields_of widened ++ drop n r)) e)
