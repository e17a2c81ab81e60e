-- A record's segments written one behind the other: each is put behind those that are written, and what is behind it stays.
use mathlib.Core.Path.{◌≡◌, refl, sym, ap, ap₂, ◌∙◌}
use mathlib.Core.List.{List, [], ◌∷◌, ◌++◌, flatten, append_assoc, append-nil}
use Prim.Native.Nat.{ℕ, zero, suc, ◌+◌, ◌*◌, ◌-◌, ◌≤◌, ◌<◌}
use native.Mathlib.Omega.{arith}
use native.Mathlib.Numerals.{add-one}
use lib.IntN.{ℤ, pos}
use lib.ListN.{length, get_or, take, drop, replicate, length-append, length-take, length-drop, take-append-drop, drop_of_length-le}
use lib.Seq.{take_at, drop_at, drop-drop}
use Rattle.dstree.specs.Measures.{Trace}
use Rattle.dstree.specs.Figures.{run}
use Rattle.dstree.specs.Node.{Segment}
use Rattle.dstree.specs.Adding.{segment_of, segments_from}
use Rattle.tables.specs.Layout.{head_places, segment_places, segment_at, record_places}
use Rattle.tables.specs.Tables.{filled}
use Rattle.leaf_figures.proofs.Placed.{end_at}
use Rattle.insertion.specs.Heads.{leaf_head}
use Rattle.insertion.specs.Widening.{with_segment}
use Rattle.insertion_memory.specs.Records.{segment_fields, fields_of, leaf_record}
use Rattle.insertion_memory.proofs.ReadBack.{fields_length}
use Rattle.splitting.specs.Leaves.{with_segments}

-- ---- the fields of segments

fields_more : (l : List Segment) (s : Segment) → fields_of (l ++ (s ∷ [])) ≡ fields_of l ++ segment_fields s
unfolding fields_of flatten
fields_more [] s = append-nil (segment_fields s)
fields_more (a ∷ l) s = ap (λ (r : List ℤ). segment_fields a ++ r) (fields_more l s) ∙ sym (append_assoc (segment_fields a) (fields_of l) (segment_fields s))

pub with_none : (r : List ℤ) → with_segments r [] ≡ r
unfolding with_segments fields_of flatten
with_none r = take-append-drop head_places r

module _ (r : List ℤ) (size : length r ≡ record_places) where
  pub with_length : (l : List Segment) → length l ≤ 16 → length (with_segments r l) ≡ record_places
  unfolding with_segments
  with_length l h = simp (length-append, length-take, length-drop, fields_length l) (omega arith)

  module _ (done : List Segment) (s : Segment) (few : length done < 16) where
    abbrev front : List ℤ
    front = take head_places r ++ fields_of done

    abbrev behind : List ℤ
    behind = drop (head_places + segment_places * length done) r

    front_length : length front ≡ segment_at (length done)
    front_length = simp (length-append, length-take, fields_length done) (omega arith)

    pub with_more : with_segment (with_segments r done) (length done) s ≡ with_segments r (done ++ (s ∷ []))
    unfolding with_segment with_segments
    with_more =
        let apart : take head_places r ++ (fields_of done ++ behind) ≡ front ++ behind = sym (append_assoc (take head_places r) (fields_of done) behind) in
        let there : head_places + segment_places * length done + segment_places ≡ head_places + segment_places * length (done ++ (s ∷ [])) = omega (arith, length-append done (s ∷ [])) in
        let rest : drop (segment_at (length done) + segment_places) (front ++ behind) ≡ drop (head_places + segment_places * length (done ++ (s ∷ []))) r =
        sym (drop-drop segment_places (segment_at (length done)) (front ++ behind))
        ∙ (ap (drop segment_places) (drop_at front behind (segment_at (length done)) front_length)
        ∙ (drop-drop segment_places (head_places + segment_places * length done) r ∙ ap (λ (m : ℕ). drop m r) there)) in
        ap (λ (w : List ℤ). take (segment_at (length done)) w ++ (segment_fields s ++ drop (segment_at (length done) + segment_places) w)) apart
        ∙ (ap₂ (λ (a b : List ℤ). a ++ (segment_fields s ++ b)) (take_at front behind (segment_at (length done)) front_length) rest
        ∙ (append_assoc (take head_places r) (fields_of done) (segment_fields s ++ drop (head_places + segment_places * length (done ++ (s ∷ []))) r)
        ∙ ap (λ (l : List ℤ). take head_places r ++ l)
        (sym (append_assoc (fields_of done) (segment_fields s) (drop (head_places + segment_places * length (done ++ (s ∷ []))) r))
        ∙ ap (λ (l : List ℤ). l ++ drop (head_places + segment_places * length (done ++ (s ∷ []))) r) (sym (fields_more done s)))))

-- ---- segments by their ends

pub segments_length : (first : ℕ) (ends : List ℕ) (traces : List Trace) → length (segments_from first ends traces) ≡ length ends
unfolding segments_from
segments_length first [] traces = refl
segments_length first (end ∷ rest) traces = ap suc (segments_length (suc end) rest traces)

pub segment_next : (at : List ℕ) (count : ℕ) → count ≤ length at → (i : ℕ) → i < count → (first : ℕ) (traces : List Trace)
    → segments_from first (drop i (take count at)) traces ≡ segment_of traces (run first (get_or at i 0)) ∷ segments_from (get_or at i 0 + 1) (drop (i + 1) (take count at)) traces
unfolding segments_from
segment_next at count room i h first traces = rw (end_at at count room i h, add-one (get_or at i 0))

-- a list passed element by element
pub passed_more : {A : Type 0} (l : List A) (i : ℕ) (a : A) (rest : List A) → drop i l ≡ a ∷ rest → (take (suc i) l ≡ take i l ++ (a ∷ [])) × (drop (suc i) l ≡ rest)
passed_more [] zero a rest e = let z : ◌≡◌ {A = ℕ} 0 1 = cc in absurd (omega arith)
passed_more (x ∷ l) zero a rest e = (cc, cc)
passed_more [] (suc i) a rest e = let z : ◌≡◌ {A = ℕ} 0 1 = cc in absurd (omega arith)
passed_more {A} (x ∷ l) (suc i) a rest e = let p = passed_more l i a rest e in (ap (λ (m : List A). x ∷ m) p.0, p.1)

-- ---- zeros, a leaf's head, and the segments

drop_replicate : (z : ℤ) (m k : ℕ) → drop m (replicate k z) ≡ replicate (k - m) z
drop_replicate z zero k = let e : k - 0 ≡ k = omega arith in rw e
drop_replicate z (suc m) zero = let e : 0 - suc m ≡ 0 = omega arith in rw e
drop_replicate z (suc m) (suc k) = let e : suc k - suc m ≡ k - m = omega arith in rw e (drop_replicate z m k)

pub leaf_is : (r : List ℤ) (segments : List Segment) (first : ℕ) → length r ≡ record_places → length segments ≤ 16
    → with_segments (leaf_head (length segments) first ++ drop head_places (filled record_places (pos 0) r)) segments ≡ leaf_record segments first
unfolding with_segments leaf_record
leaf_is r segments first size few =
    let none_left : drop record_places r ≡ [] = drop_of_length-le r {i = record_places} (omega arith) in
    let zeros : drop head_places (filled record_places (pos 0) r) ≡ replicate 80 (pos 0) = rw none_left in
    let whole = leaf_head (length segments) first ++ drop head_places (filled record_places (pos 0) r) in
    let rest : drop (head_places + segment_places * length segments) whole ≡ replicate (record_places - head_places - segment_places * length segments) (pos 0) =
    sym (drop-drop (segment_places * length segments) head_places whole) ∙ (ap (drop (segment_places * length segments)) zeros ∙ drop_replicate (pos 0) (segment_places * length segments) 80) in
    ap (λ (l : List ℤ). leaf_head (length segments) first ++ (fields_of segments ++ l)) rest
