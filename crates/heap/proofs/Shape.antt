-- A heap in which one key is written anew: lower, if it is not below the key above it; higher, if it is not above those below it.
-- And the key at place 0 is the least.
use mathlib.Core.Path.{◌≡◌, ap, ◌∙◌}
use mathlib.Core.Logic.{⊎_elim}
use mathlib.Core.List.{List, [], ◌∷◌}
use Prim.Native.Nat.{ℕ, zero, suc, ◌+◌, ◌*◌, ◌-◌, ◌/◌, ◌<◌, ◌≤◌}
use native.Mathlib.Numerals.{add-one}
use native.Mathlib.Omega.{arith}
use lib.ListN.{length, get_or, set, take, length-take}
use lib.Seq.{get_or-set_same, get_or-set_other, take-set-lt, get_or-take, take-suc}
use Rattle.heap.specs.Keys.{insert_key, sorted_of, pour}
use Rattle.heap.specs.Heap.{IsHeap, Lesser}
use Rattle.heap.proofs.Sorting.{equal_or_not, pour_append, pour_insert, pour_cons, pour_nil, hole_move, hole_fill, set_pour}

pub at_set : (l : List ℕ) (at k i : ℕ) → at < length l → i ≡ at → get_or (set l at k) i 0 ≡ k
at_set l at k i h e = ap (λ (x : ℕ). get_or (set l at k) x 0) e ∙ get_or-set_same l at k 0 h

-- a lesser key for w, not below the one above its place
pub lower : (m at w k : ℕ) (l : List ℕ) → at < length l → IsHeap m (set l at w) → k ≤ w
    → ((i : ℕ) → 2 * i < at → at ≤ 2 * i + 2 → get_or l i 0 ≤ k) → IsHeap m (set l at k)
lower m at w k l h heap less parent i j a b r =
    ⊎_elim
    (λ (e : i ≡ at).
    let off : j ≡ at → ⊥ = λ q. omega arith in
    omega (arith, at_set l at k i h e, at_set l at w i h e, get_or-set_other l at j k 0 off, get_or-set_other l at j w 0 off, heap i j a b r))
    (λ (ne : i ≡ at → ⊥).
    ⊎_elim
    (λ (e : j ≡ at). omega (arith, at_set l at k j h e, get_or-set_other l at i k 0 ne, parent i (omega arith) (omega arith)))
    (λ (off : j ≡ at → ⊥).
    omega (arith, get_or-set_other l at i k 0 ne, get_or-set_other l at i w 0 ne, get_or-set_other l at j k 0 off, get_or-set_other l at j w 0 off, heap i j a b r))
    (equal_or_not j at))
    (equal_or_not i at)

-- a greater key, not above those below its place
pub raise : (m at k : ℕ) (l : List ℕ) → at < length l → IsHeap m l → get_or l at 0 ≤ k
    → ((j : ℕ) → 2 * at < j → j ≤ 2 * at + 2 → j < m → k ≤ get_or l j 0) → IsHeap m (set l at k)
raise m at k l h heap more child i j a b r =
    ⊎_elim
    (λ (e : i ≡ at).
    let off : j ≡ at → ⊥ = λ q. omega arith in
    omega (arith, at_set l at k i h e, get_or-set_other l at j k 0 off, child j (omega arith) (omega arith) r))
    (λ (ne : i ≡ at → ⊥).
    ⊎_elim
    (λ (e : j ≡ at). omega (arith, at_set l at k j h e, get_or-set_other l at i k 0 ne, heap i j a b r, ap (λ (x : ℕ). get_or l x 0) e))
    (λ (off : j ≡ at → ⊥). omega (arith, get_or-set_other l at i k 0 ne, get_or-set_other l at j k 0 off, heap i j a b r))
    (equal_or_not j at))
    (equal_or_not i at)

-- the key at place 0 is the least
least_by : (m : ℕ) (l : List ℕ) → IsHeap m l → (k i : ℕ) → i ≤ k → i < m → get_or l 0 0 ≤ get_or l i 0
least_by m l heap zero i a r = let e : i ≡ 0 = omega arith in rw e (omega arith)
least_by m l heap (suc k) i a r =
    ⊎_elim
    (λ (e : i ≡ 0). rw e (omega arith))
    (λ (ne : i ≡ 0 → ⊥).
    omega (arith, least_by m l heap k ((i - 1) / 2) (omega arith) (omega arith), heap ((i - 1) / 2) i (omega arith) (omega arith) r))
    (equal_or_not i 0)

pub least : (m : ℕ) (l : List ℕ) → IsHeap m l → (i : ℕ) → i < m → get_or l 0 0 ≤ get_or l i 0
least m l heap i r = least_by m l heap i i (omega arith) r

-- the lesser of the keys below a place is at most each of them
pub lesser_all : (n at left : ℕ) (l : List ℕ) (r : ℕ) → left ≡ 2 * at + 1 → Lesser n left l r
    → (j : ℕ) → 2 * at < j → j ≤ 2 * at + 2 → j < n → get_or l r 0 ≤ get_or l j 0
lesser_all n at left l r e x j a b h =
    ⊎_elim
    (λ (q : j ≡ left). rw q x.first)
    (λ (ne : j ≡ left → ⊥). let q : j ≡ left + 1 = omega arith in rw q (x.second (omega arith)))
    (equal_or_not j left)

-- ---- the keys of the first m places

pub more_keys : (l : List ℕ) (n : ℕ) → n < length l → sorted_of (take (n + 1) l) ≡ insert_key (get_or l n 0) (sorted_of (take n l))
more_keys l n h =
    rw (add-one n, take-suc l n 0 h, pour_append (take n l) (get_or l n 0 ∷ []) [], pour_cons (get_or l n 0) [] [])
    (pour_insert (take n l) (get_or l n 0) (pour [] []) ∙ ap (λ (r : List ℕ). insert_key (get_or l n 0) (pour (take n l) r)) (pour_nil []))

module _ (m at : ℕ) (l : List ℕ) (r : at < m) (h : at < length l) where
  inside : at < length (take m l)
  inside = rw (length-take m l) (omega arith)

  pub keys_move : (key k : ℕ) (c : List ℕ) → insert_key key (sorted_of (take m l)) ≡ insert_key (get_or l at 0) c → insert_key key (sorted_of (take m (set l at k))) ≡ insert_key k c
  keys_move key k c e = rw (take-set-lt m l at k r) (hole_move (take m l) at key k c inside (rw (get_or-take m l at 0 r) e))

  pub keys_fill : (key : ℕ) (c : List ℕ) → insert_key key (sorted_of (take m l)) ≡ insert_key (get_or l at 0) c → sorted_of (take m (set l at key)) ≡ c
  keys_fill key c e = rw (take-set-lt m l at key r) (hole_fill (take m l) at key c inside (rw (get_or-take m l at 0 r) e))

  pub keys_set : (k : ℕ) → insert_key (get_or l at 0) (sorted_of (take m (set l at k))) ≡ insert_key k (sorted_of (take m l))
  keys_set k = rw (take-set-lt m l at k r, ← get_or-take m l at 0 r) (set_pour (take m l) at k [] inside)
