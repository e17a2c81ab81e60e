-- The least key is the one at place 0. `pop`: the last key goes in its place, and sinks from there.
use mathlib.Core.Path.{◌≡◌, refl, sym, ap, subst, ◌∙◌}
use mathlib.Core.List.{List, [], ◌∷◌}
use Prim.Native.Nat.{ℕ, zero, suc, ◌+◌, ◌-◌, ◌<◌, ◌≤◌}
use native.Mathlib.Nat.{not-suc-le-zero}
use native.Mathlib.Numerals.{add-one}
use native.Mathlib.Omega.{arith}
use lib.ListN.{length, get_or, set, take, drop, length-set, length-take}
use lib.Seq.{get_or-set_same, get_or-set_other, drop-set-lt, drop-cons, take-set-le, take-set-lt, get_or-take}
use Rattle.heap.specs.Keys.{insert_key, sorted_of}
use Rattle.heap.specs.Heap.{IsHeap, Least, Sunk, Popped}
use Rattle.heap.proofs.Sorting.{Above, SortedKeys, above_pour, sorted_pour, pour_nil, pour_cons}
use Rattle.heap.proofs.Sorting.{insert_nil, insert_first, insert_comm, insert_cancel}
use Rattle.heap.proofs.Shape.{least, more_keys, keys_set}

above_of : (m : ℕ) (l : List ℕ) → ((i : ℕ) → i < length l → m ≤ get_or l i 0) → Above m l
above_of m [] f = tt
above_of m (x ∷ xs) f = (f 0 (omega arith), above_of m xs (λ i h. f (suc i) (omega arith)))

above_set : (m : ℕ) (l : List ℕ) (i k : ℕ) → m ≤ k → Above m l → Above m (set l i k)
above_set m [] i k h a = a
above_set m (x ∷ xs) zero k h a = (h, a.1)
above_set m (x ∷ xs) (suc i) k h a = (a.0, above_set m xs i k h a.1)

pub least_first : (n : ℕ) (s : List ℕ) → 0 < n → n ≤ length s → IsHeap n s → Least n s (get_or s 0 0)
least_first zero s some fits heap = absurd (omega arith)
least_first (suc m) [] some fits heap = absurd (not-suc-le-zero fits)
least_first (suc m) (x ∷ s) some fits heap =
    let above : Above x (take m s) =
    above_of x (take m s)
    (λ i q.
    let p : i < m = omega (arith, rw (length-take m s) at q) in
    rw (get_or-take m s i 0 p) (least (suc m) (x ∷ s) heap (suc i) (omega arith))) in
    record {
      others = sorted_of (take m s);
      keys = pour_cons x (take m s) [] ∙ insert_first x (sorted_of (take m s)) (above_pour x (take m s) [] above tt);
    }

-- the least key, by whatever it was found
module _ (n : ℕ) (s : List ℕ) (some : 0 < n) (fits : n ≤ length s) (heap : IsHeap n s) (x : ℕ) (others : List ℕ)
    (keys : sorted_of (take n s) ≡ x ∷ others) where
  pub least_at : get_or s 0 0 ≡ x
  least_at =
      let l = least_first n s some fits heap in
      let e : get_or s 0 0 ∷ l.others ≡ x ∷ others = sym l.keys ∙ keys in
      cc

  -- a key that sinks in its place is put among the others
  pub sunk_among : (key : ℕ) (t : List ℕ) → Sunk n key s t → sorted_of (take n t) ≡ insert_key key others
  sunk_among key t sunk =
      let all = sorted_of (take n (set s 0 key)) in
      let sorted : SortedKeys (x ∷ others) = subst SortedKeys keys (sorted_pour (take n s) [] tt) in
      let bag : insert_key x all ≡ insert_key key (sorted_of (take n s)) =
      subst (λ (y : ℕ). insert_key y all ≡ insert_key key (sorted_of (take n s))) least_at (keys_set n 0 s some (omega arith) key) in
      sunk.keys
      ∙ insert_cancel x all (insert_key key others)
      (bag ∙ ap (insert_key key) (keys ∙ sym (insert_first x others sorted.0)) ∙ insert_comm key x others)

module _ (last : ℕ) (s : List ℕ) (room : last < length s) (heap : IsHeap (last + 1) s) where
  heap_left : IsHeap last (set s last 0)
  heap_left i j a b r =
      omega (arith, get_or-set_other s last i 0 0 (λ q. omega arith), get_or-set_other s last j 0 0 (λ q. omega arith), heap i j a b (omega arith))

  least_last : 0 < last → get_or (set s last 0) 0 0 ≤ get_or s last 0
  least_last h = omega (arith, get_or-set_other s last 0 0 0 (λ q. omega arith), least (last + 1) s heap last (omega arith))

  rest_of : drop last (set s last 0) ≡ 0 ∷ drop (last + 1) s
  rest_of =
      let h : last < length (set s last 0) = rw (length-set s last 0) room in
      rw (drop-cons (set s last 0) last 0 h, get_or-set_same s last 0 0 room, drop-set-lt (suc last) s last 0 (omega arith), add-one last)

  popped : (t : List ℕ) → 0 < last → Sunk last (get_or s last 0) (set s last 0) t → Popped (last + 1) (get_or s 0 0) s t
  popped t h sunk =
      let key = get_or s last 0 in
      let z = set s last 0 in
      let inside : 0 < length z = rw (length-set s last 0) (omega arith) in
      let e : last + 1 - 1 ≡ last = omega arith in
      let same : take last z ≡ take last s = take-set-le last s last 0 (omega arith) in
      let zero_at : get_or z 0 0 ≡ get_or s 0 0 = get_or-set_other s last 0 0 0 (λ q. omega arith) in
      let x = sorted_of (take last (set z 0 key)) in
      let bag : insert_key (get_or s 0 0) x ≡ sorted_of (take (last + 1) s) =
      rw (more_keys s last room, ← same, ← zero_at) (keys_set last 0 z h inside key) in
      let all : Above (get_or s 0 0) (take last s) =
      above_of (get_or s 0 0) (take last s)
      (λ i q.
      let p : i < last = omega (arith, rw (length-take last s) at q) in
      rw (get_or-take last s i 0 p) (least (last + 1) s heap i (omega arith))) in
      let up : Above (get_or s 0 0) x =
      above_pour (get_or s 0 0) (take last (set z 0 key)) []
      (rw (take-set-lt last z 0 key h, same) (above_set (get_or s 0 0) (take last s) 0 key (least (last + 1) s heap last (omega arith)) all))
      tt in
      record {
        heap = rw e sunk.heap;
        keys = rw (e, sunk.keys) (sym bag ∙ insert_first (get_or s 0 0) x up);
        rest = rw e (sunk.rest ∙ rest_of);
      }

popped_one : (s : List ℕ) → 0 < length s → Popped 1 (get_or s 0 0) s (set s 0 0)
popped_one [] h = absurd (not-suc-le-zero h)
popped_one (x ∷ xs) h = record {
  heap = λ i j a b r. absurd (not-suc-le-zero r);
  keys = more_keys (x ∷ xs) 0 h ∙ ap (insert_key x) (pour_nil []) ∙ insert_nil x ∙ ap (λ (l : List ℕ). x ∷ l) (sym (pour_nil []));
  rest = refl;
}

-- the same of n, which is last + 1
module _ (n : ℕ) (s : List ℕ) (some : 0 < n) (fits : n ≤ length s) (heap : IsHeap n s) where
  one_more : n - 1 + 1 ≡ n
  one_more = omega arith

  pub sink_ready : 0 < n - 1 → (0 < n - 1) × (n - 1 ≤ length (set s (n - 1) 0)) × (IsHeap (n - 1) (set s (n - 1) 0)) × (get_or (set s (n - 1) 0) 0 0 ≤ get_or s (n - 1) 0)
  sink_ready h =
      let whole : IsHeap (n - 1 + 1) s = rw one_more heap in
      (h, rw (length-set s (n - 1) 0) (omega arith), heap_left (n - 1) s (omega arith) whole, least_last (n - 1) s (omega arith) whole h)

  pub pop_more : (t : List ℕ) → 0 < n - 1 → Sunk (n - 1) (get_or s (n - 1) 0) (set s (n - 1) 0) t → Popped n (get_or s 0 0) s t
  pop_more t h sunk =
      let whole : IsHeap (n - 1 + 1) s = rw one_more heap in
      subst (λ (k : ℕ). Popped k (get_or s 0 0) s t) one_more (popped (n - 1) s (omega arith) whole t h sunk)

  pub pop_one : n - 1 ≤ 0 → Popped n (get_or s 0 0) s (set s (n - 1) 0)
  pop_one h = let e : n ≡ 1 = omega arith in rw e (popped_one s (omega arith))
