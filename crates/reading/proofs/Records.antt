-- The records of a list as code changes them: one is put; a trace goes to its place among those in order, for which the others move on.
use Prim.Native.Nat.{ℕ, zero, suc, ◌+◌, ◌*◌, ◌-◌, ◌≤◌, ◌<◌}
use mathlib.Core.Path.{◌≡◌, refl, sym, ◌∙◌, ap, subst}
use mathlib.Core.Bool.{true, false}
use mathlib.Core.List.{List, [], ◌∷◌, ◌++◌, map}
use native.Mathlib.Decide.{dec_lt}
use native.Mathlib.Omega.{arith}
use lib.ListN.{length, get_or, take, drop, set, length-map, length-set, drop_of_length-le}
use lib.Seq.{length-take-le, take_all, take_at, take-take, take-set-le, drop-cons, drop-set-lt, set_split, get_or-take, get_or-set_same}
use lib.Seq.{get_or-set_other, ext_get_or}
use borrow.Author.Tests.{lt-ltb, le-ltb, ne_eqb}
use Rattle.integer.specs.Words.{counting}
use Rattle.integer.specs.Sorting.{sorted_with, Ordered}
use Rattle.integer.proofs.Lists.{same_or_not, map_take, All, all_none, all_more}
use Rattle.integer.proofs.Times.{counting_length}
use Rattle.integer.proofs.Rows.{get_or_table}
use Rattle.integer.proofs.Sorting.{inserted_length, inserted_at, inserted_ahead, take_ordered, up_to}
use Rattle.segment.specs.Limits.{distance_most}
use Rattle.dstree.specs.Measures.{most_samples}
use Rattle.dstree.specs.Matching.{Near, is_nearer}
use Rattle.dstree.specs.KNearest.{list_with}
use Rattle.dstree.proofs.Ranks.{linear}
use Rattle.reading.specs.Nearest.{near}
use Rattle.reading.specs.Listed.{record_at, nears_in, no_limit, limit_of, ListRoom, ListBegins}

-- ---- the first m records

pub nears_length : (m : ℕ) (l : List ℕ) → length (nears_in m l) ≡ m
unfolding nears_in
nears_length m l = length-map (counting m 0) (record_at l) ∙ counting_length m 0

pub nears_none : (l : List ℕ) → nears_in 0 l ≡ []
unfolding nears_in counting
nears_none l = refl

pub nears_at : (m i : ℕ) (l : List ℕ) → i < m → get_or (nears_in m l) i (near 0 0) ≡ record_at l i
unfolding nears_in
nears_at m i l h = let z : 0 + i ≡ i = omega arith in get_or_table (record_at l) m 0 i (near 0 0) h ∙ ap (record_at l) z

take_counting : (j m a : ℕ) → j ≤ m → take j (counting m a) ≡ counting j a
unfolding counting
take_counting zero m a h = refl
take_counting (suc j) zero a h = absurd (omega arith)
take_counting (suc j) (suc m) a h = ap (λ (l : List ℕ). a ∷ l) (take_counting j m (suc a) (omega arith))

pub nears_take : (j m : ℕ) (l : List ℕ) → j ≤ m → take j (nears_in m l) ≡ nears_in j l
unfolding nears_in
nears_take j m l h = sym (map_take (record_at l) j (counting m 0)) ∙ ap (map (record_at l)) (take_counting j m 0 h)

-- ---- a record is put

abbrev pub put_in : List ℕ → ℕ → ℕ → ℕ → List ℕ
put_in l i trace distance = set (set l (2 * i) trace) (2 * i + 1) distance

-- record i is the next one's too
abbrev moved_on : List ℕ → ℕ → List ℕ
moved_on l i = set (set l (2 * i + 2) (get_or l (2 * i) 0)) (2 * i + 3) (get_or l (2 * i + 1) 0)

pub put_same : (l : List ℕ) (i t d : ℕ) → 2 * i + 2 ≤ length l → record_at (put_in l i t d) i ≡ near t d
put_same l i t d h =
    let e : get_or (put_in l i t d) (2 * i) 0 ≡ t =
    get_or-set_other (set l (2 * i) t) (2 * i + 1) (2 * i) d 0 (λ q. omega arith) ∙ get_or-set_same l (2 * i) t 0 (omega arith) in
    let f : get_or (put_in l i t d) (2 * i + 1) 0 ≡ d =
    get_or-set_same (set l (2 * i) t) (2 * i + 1) d 0 (omega (arith, length-set l (2 * i) t)) in
    rw (e, f)

pub put_other : (l : List ℕ) (i j t d : ℕ) → (j ≡ i → ⊥) → record_at (put_in l i t d) j ≡ record_at l j
put_other l i j t d f =
    let e : get_or (put_in l i t d) (2 * j) 0 ≡ get_or l (2 * j) 0 =
    get_or-set_other (set l (2 * i) t) (2 * i + 1) (2 * j) d 0 (λ q. omega arith)
    ∙ get_or-set_other l (2 * i) (2 * j) t 0 (λ q. f (omega arith)) in
    let g : get_or (put_in l i t d) (2 * j + 1) 0 ≡ get_or l (2 * j + 1) 0 =
    get_or-set_other (set l (2 * i) t) (2 * i + 1) (2 * j + 1) d 0 (λ q. f (omega arith))
    ∙ get_or-set_other l (2 * i) (2 * j + 1) t 0 (λ q. omega arith) in
    rw (e, g)

nears_put : (m i : ℕ) (l : List ℕ) (t d : ℕ) → i < m → 2 * i + 2 ≤ length l → nears_in m (put_in l i t d) ≡ set (nears_in m l) i (near t d)
nears_put m i l t d inside room =
    ext_get_or (near 0 0) (nears_in m (put_in l i t d)) (set (nears_in m l) i (near t d))
    (nears_length m (put_in l i t d) ∙ sym (length-set (nears_in m l) i (near t d) ∙ nears_length m l))
    (λ j h. at j (omega (arith, h, nears_length m (put_in l i t d))) (same_or_not j i))
  where
    at : (j : ℕ) → j < m → Dec (j ≡ i)
        → get_or (nears_in m (put_in l i t d)) j (near 0 0) ≡ get_or (set (nears_in m l) i (near t d)) j (near 0 0)
    at j h (yes e) =
        nears_at m j (put_in l i t d) h
        ∙ (rw e (put_same l i t d room ∙ sym (get_or-set_same (nears_in m l) i (near t d) (near 0 0) (omega (arith, nears_length m l)))))
    at j h (no f) =
        nears_at m j (put_in l i t d) h
        ∙ (put_other l i j t d f ∙ (sym (nears_at m j l h) ∙ sym (get_or-set_other (nears_in m l) i j (near t d) (near 0 0) f)))

put_rest : (n : ℕ) (l : List ℕ) (i t d : ℕ) → 2 * i + 2 ≤ n → drop n (put_in l i t d) ≡ drop n l
put_rest n l i t d h = drop-set-lt n (set l (2 * i) t) (2 * i + 1) d (omega arith) ∙ drop-set-lt n l (2 * i) t (omega arith)

pub put_length : (l : List ℕ) (i t d : ℕ) → length (put_in l i t d) ≡ length l
put_length l i t d = length-set (set l (2 * i) t) (2 * i + 1) d ∙ length-set l (2 * i) t

-- ---- a trace goes to its place

drop_set : {A : Type 0} (l : List A) (n : ℕ) (a : A) → n < length l → drop n (set l n a) ≡ a ∷ drop (suc n) l
drop_set {A} l n a h =
    drop-cons (set l n a) n a (omega (arith, length-set l n a))
    ∙ (let e = get_or-set_same l n a a h in let f = drop-set-lt (suc n) l n a (omega arith) in rw (e, f))

-- of the m records of `l₀` those from i on are one record on; record i is free
pub record RecordsMoved (m : ℕ) (a : Near) (l₀ l : List ℕ) (i : ℕ) : Type 0 where
  pub few : i ≤ m
  pub long : length l ≡ length l₀
  pub ahead : take i (nears_in (suc m) l) ≡ take i (nears_in m l₀)
  pub behind : drop (suc i) (nears_in (suc m) l) ≡ drop i (nears_in m l₀)
  pub comes_first : All (λ b. is_nearer a b ≡ true) (drop i (nears_in m l₀))
  pub rest : drop (2 * (m + 1)) l ≡ drop (2 * (m + 1)) l₀

module _ (m : ℕ) (a : Near) (l₀ : List ℕ) (room : 2 * m + 2 ≤ length l₀) where
  abbrev L : List Near
  L = nears_in m l₀

  pub moved_start : RecordsMoved m a l₀ l₀ m
  moved_start =
      let none_left : drop m L ≡ [] = drop_of_length-le L {i = m} (omega (arith, nears_length m l₀)) in
      record {
        few = omega arith;
        long = refl;
        ahead = nears_take m (suc m) l₀ (omega arith) ∙ sym (take_all m L (omega (arith, nears_length m l₀)));
        behind = drop_of_length-le (nears_in (suc m) l₀) {i = suc m} (omega (arith, nears_length (suc m) l₀)) ∙ sym none_left;
        comes_first = rw none_left all_none;
        rest = refl;
      }

  module _ (l : List ℕ) (i j : ℕ) (s : RecordsMoved m a l₀ l i) (next : i ≡ suc j) where
    abbrev N : List Near
    N = nears_in (suc m) l

    -- the record ahead is as it was
    record_ahead : record_at l j ≡ get_or L j (near 0 0)
    record_ahead =
        sym (nears_at (suc m) j l (omega (arith, s.few)))
        ∙ (sym (get_or-take i N j (near 0 0) (omega arith))
        ∙ (ap (λ (r : List Near). get_or r j (near 0 0)) s.ahead ∙ get_or-take i L j (near 0 0) (omega arith)))

    inside : j < length L
    inside = omega (arith, s.few, nears_length m l₀)

    abbrev moved : List ℕ
    moved = put_in l i (get_or l (2 * j) 0) (get_or l (2 * j + 1) 0)

    moved_is : nears_in (suc m) moved ≡ set N i (record_at l j)
    moved_is =
        nears_put (suc m) i l (get_or l (2 * j) 0) (get_or l (2 * j + 1) 0) (omega (arith, s.few)) (omega (arith, room, s.few, s.long))

    split : drop j L ≡ get_or L j (near 0 0) ∷ drop i L
    split = drop-cons L j (near 0 0) inside ∙ ap (λ (n : ℕ). get_or L j (near 0 0) ∷ drop n L) (sym next)

    moved_as : moved ≡ moved_on l j
    moved_as =
        let e : 2 * i ≡ 2 * j + 2 = omega arith in
        let f : 2 * i + 1 ≡ 2 * j + 3 = omega arith in
        ap (λ (n : ℕ). set (set l n (get_or l (2 * j) 0)) (2 * i + 1) (get_or l (2 * j + 1) 0)) e
        ∙ ap (λ (n : ℕ). set (set l (2 * j + 2) (get_or l (2 * j) 0)) n (get_or l (2 * j + 1) 0)) f

    -- the trace comes before it, so it moves on
    pub moved_next : is_nearer a (record_at l j) ≡ true → RecordsMoved m a l₀ (moved_on l j) j
    moved_next e = subst (λ (r : List ℕ). RecordsMoved m a l₀ r j) moved_as (record {
      few = omega (arith, s.few);
      long = put_length l i (get_or l (2 * j) 0) (get_or l (2 * j + 1) 0) ∙ s.long;
      ahead =
          ap (take j) moved_is
          ∙ (take-set-le j N i (record_at l j) (omega arith)
          ∙ (sym (take-take j i N (omega arith)) ∙ (ap (take j) s.ahead ∙ take-take j i L (omega arith))));
      behind =
          ap (λ (n : ℕ). drop n (nears_in (suc m) moved)) (sym next)
          ∙ (ap (drop i) moved_is
          ∙ (drop_set N i (record_at l j) (omega (arith, s.few, nears_length (suc m) l))
          ∙ (ap (λ (b : Near). b ∷ drop (suc i) N) record_ahead
          ∙ (ap (λ (r : List Near). get_or L j (near 0 0) ∷ r) s.behind ∙ sym split))));
      comes_first = rw split (all_more (sym (ap (is_nearer a) record_ahead) ∙ e) s.comes_first);
      rest = put_rest (2 * (m + 1)) l i (get_or l (2 * j) 0) (get_or l (2 * j + 1) 0) (omega (arith, s.few)) ∙ s.rest;
    })

    -- or not, nor before any ahead of it
    pub none_ahead : Ordered is_nearer L → is_nearer a (record_at l j) ≡ false → All (λ b. is_nearer a b ≡ false) (take i L)
    none_ahead o e = rw next (up_to linear a j (near 0 0) o inside (sym (ap (is_nearer a) record_ahead) ∙ e))

-- the free record is the trace's place
module _ (m : ℕ) (t d : ℕ) (l₀ l : List ℕ) (i : ℕ) (room : 2 * m + 2 ≤ length l₀) (s : RecordsMoved m (near t d) l₀ l i) where
  pub moved_end : All (λ b. is_nearer (near t d) b ≡ false) (take i (nears_in m l₀))
      → nears_in (suc m) (put_in l i t d) ≡ sorted_with is_nearer (near t d) (nears_in m l₀)
  moved_end o =
      nears_put (suc m) i l t d (omega (arith, s.few)) (omega (arith, room, s.few, s.long))
      ∙ (set_split (nears_in (suc m) l) i (near t d) (omega (arith, s.few, nears_length (suc m) l))
      ∙ (ap (λ (r : List Near). r ++ (near t d ∷ drop (suc i) (nears_in (suc m) l))) s.ahead
      ∙ (ap (λ (r : List Near). take i (nears_in m l₀) ++ (near t d ∷ r)) s.behind
      ∙ sym (inserted_at is_nearer (near t d) i (nears_in m l₀) o s.comes_first))))

-- ---- one trace more, of which the k nearest stay

module _ (k many t d : ℕ) (l : List ℕ) (r : ListRoom k many l) where
  abbrev so_far : List Near
  so_far = nears_in many l

  pub placed_more : (l' : List ℕ) → many < k → nears_in (many + 1) l' ≡ sorted_with is_nearer (near t d) so_far
      → drop (2 * (many + 1)) l' ≡ drop (2 * (many + 1)) l → ListBegins k (many + 1) (list_with k so_far (near t d)) l l'
  placed_more l' h e rest = record {
    nears_are =
        e ∙ sym (take_all k (sorted_with is_nearer (near t d) so_far)
        (omega (arith, inserted_length is_nearer (near t d) so_far, nears_length many l)));
    few = omega arith;
    rest = rest;
  }

  -- the list is full
  module _ (full : k ≤ many) where
    ahead_few : k - 1 < length so_far
    ahead_few = omega (arith, nears_length many l, r.some_record, full)

    last_is : get_or so_far (k - 1) (near 0 0) ≡ record_at l (k - 1)
    last_is = nears_at many (k - 1) l (omega (arith, r.some_record, full))

    one_less : suc (k - 1) ≡ k
    one_less = omega (arith, r.some_record)

    -- the trace is not before the last, and so before none
    pub placed_none : is_nearer (near t d) (record_at l (k - 1)) ≡ false → ListBegins k k (list_with k so_far (near t d)) l l
    placed_none e =
        let all_k : many ≡ k = omega (arith, full, r.few) in
        let none_before : All (λ b. is_nearer (near t d) b ≡ false) (take k so_far) =
        subst (λ (n : ℕ). All (λ b. is_nearer (near t d) b ≡ false) (take n so_far)) one_less
        (up_to linear (near t d) (k - 1) (near 0 0) r.ordered ahead_few (ap (is_nearer (near t d)) last_is ∙ e)) in
        let past : drop k so_far ≡ [] = drop_of_length-le so_far {i = k} (omega (arith, nears_length many l, r.few)) in
        let stays : list_with k so_far (near t d) ≡ take k so_far =
        ap (take k) (inserted_at is_nearer (near t d) k so_far none_before (rw past all_none))
        ∙ take_at (take k so_far) (near t d ∷ drop k so_far) k (length-take-le k so_far (omega (arith, nears_length many l, full))) in
        record {
          nears_are = sym (stays ∙ nears_take k many l full);
          few = omega arith;
          rest = refl;
        }

    -- the trace is beyond the last one's distance, whatever their numbers
    pub placed_beyond : (record_at l (k - 1)).distance < d → ListBegins k k (list_with k so_far (near t d)) l l
    unfolding is_nearer
    placed_beyond h =
        let last = (record_at l (k - 1)).distance in
        placed_none (rw (le-ltb d last (omega (arith, h)), ne_eqb d last (λ e. omega (arith, h, e))))

    -- the trace is before the last, which goes
    pub placed_nearer : (l' : List ℕ) → is_nearer (near t d) (record_at l (k - 1)) ≡ true
        → nears_in (k - 1 + 1) l' ≡ sorted_with is_nearer (near t d) (nears_in (k - 1) l)
        → drop (2 * (k - 1 + 1)) l' ≡ drop (2 * (k - 1 + 1)) l → ListBegins k k (list_with k so_far (near t d)) l l'
    placed_nearer l' e f rest =
        let again : k - 1 + 1 ≡ k = omega (arith, r.some_record) in
        let first_k : list_with k so_far (near t d) ≡ sorted_with is_nearer (near t d) (nears_in (k - 1) l) =
        ap (λ (n : ℕ). take n (sorted_with is_nearer (near t d) so_far)) (sym one_less)
        ∙ (inserted_ahead is_nearer (near t d) (k - 1) so_far (near 0 0) ahead_few (ap (is_nearer (near t d)) last_is ∙ e)
        ∙ ap (sorted_with is_nearer (near t d)) (nears_take (k - 1) many l (omega (arith, full)))) in
        record {
          nears_are = (rw again at f) ∙ sym first_k;
          few = omega arith;
          rest = rw again at rest;
        }

    pub ordered_ahead : Ordered is_nearer (nears_in (k - 1) l)
    ordered_ahead = subst (Ordered is_nearer) (nears_take (k - 1) many l (omega (arith, full))) (take_ordered linear (k - 1) r.ordered)

  -- the trace is beyond the limit. While the list is not full none is: n samples are not so far apart
  pub placed_past : limit_of k many l < d → (n : ℕ) → n ≤ most_samples → (distance_most n ≤ limit_of k many l → d ≤ distance_most n)
      → ListBegins k k (list_with k so_far (near t d)) l l
  unfolding limit_of
  placed_past h n few size = by (dec_lt many k)
    where
      by : Dec (many < k) → ListBegins k k (list_with k so_far (near t d)) l l
      by (yes j) =
          let none : limit_of k many l ≡ no_limit = rw (lt-ltb many k j) in
          absurd (omega (arith, none, h, few, size (omega (arith, none, few))))
      by (no j) =
          let full : k ≤ many = omega (arith, j) in
          let last : limit_of k many l ≡ (record_at l (k - 1)).distance = rw (le-ltb many k full) in
          placed_beyond full (omega (arith, last, h))
