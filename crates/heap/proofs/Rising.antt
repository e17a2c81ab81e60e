-- `push`: a hole goes up from the end. With some key w in it, not below the new key, the places are a heap; in the end the new key, which
-- is lower, fills the hole.
use mathlib.Core.Path.{◌≡◌, refl, sym, ap, subst, ◌∙◌}
use mathlib.Core.Logic.{⊎_elim}
use mathlib.Core.List.{List}
use Prim.Native.Nat.{ℕ, ◌+◌, ◌*◌, ◌-◌, ◌/◌, ◌<◌, ◌≤◌}
use native.Mathlib.Omega.{arith}
use lib.ListN.{length, get_or, set, take, drop, length-set}
use lib.Seq.{get_or-set_other, drop-set-lt, set-get_or}
use Rattle.heap.specs.Keys.{insert_key, sorted_of}
use Rattle.heap.specs.Heap.{IsHeap, Pushed}
use Rattle.heap.proofs.Sorting.{equal_or_not, insert_comm}
use Rattle.heap.proofs.Shape.{at_set, lower, more_keys, keys_move, keys_fill}

-- the hole is at place `at`, and s₀ is the slice before the call
pub record Rise (n key at : ℕ) (s₀ s : List ℕ) : Type 0 where
  pub low : at ≤ n
  pub long : length s ≡ length s₀
  pub rest : drop (n + 1) s ≡ drop (n + 1) s₀
  pub keys : insert_key key (sorted_of (take (n + 1) s)) ≡ insert_key (get_or s at 0) (insert_key key (sorted_of (take n s₀)))
  pub w : ℕ
  pub over : key ≤ w
  pub heap : IsHeap (n + 1) (set s at w)

module _ (n key : ℕ) (s₀ : List ℕ) (room : n < length s₀) where
  first_heap : (w : ℕ) → IsHeap n s₀ → get_or s₀ ((n - 1) / 2) 0 ≤ w → IsHeap (n + 1) (set s₀ n w)
  first_heap w heap up i j a b r =
      let ne : i ≡ n → ⊥ = λ q. omega arith in
      ⊎_elim
      (λ (e : j ≡ n).
      let q : i ≡ (n - 1) / 2 = omega arith in
      omega (arith, at_set s₀ n w j room e, get_or-set_other s₀ n i w 0 ne, ap (λ (x : ℕ). get_or s₀ x 0) q))
      (λ (off : j ≡ n → ⊥). omega (arith, get_or-set_other s₀ n i w 0 ne, get_or-set_other s₀ n j w 0 off, heap i j a b (omega arith)))
      (equal_or_not j n)

  pub rise_start : IsHeap n s₀ → Rise n key n s₀ s₀
  rise_start heap = record {
    low = omega arith;
    long = refl;
    rest = refl;
    keys = rw (more_keys s₀ n room) (insert_comm key (get_or s₀ n 0) (sorted_of (take n s₀)));
    w = key + get_or s₀ ((n - 1) / 2) 0;
    over = omega arith;
    heap = first_heap (key + get_or s₀ ((n - 1) / 2) 0) heap (omega arith);
  }

  module _ (at : ℕ) (s : List ℕ) (x : Rise n key at s₀ s) where
    inside : at < length s
    inside = omega (arith, x.low, x.long)

    module _ (up : ℕ) (above : 2 * up < at) (near : at ≤ 2 * up + 2) (less : key < get_or s up 0) where
      off : up ≡ at → ⊥
      off q = omega arith

      read : get_or (set s at (get_or s up 0)) up 0 ≡ get_or s up 0
      read = get_or-set_other s at up (get_or s up 0) 0 off

      below : get_or s up 0 ≤ x.w
      below = omega (arith, x.heap up at above near (omega (arith, x.low)), at_set s at x.w at inside refl, get_or-set_other s at up x.w 0 off)

      moved : IsHeap (n + 1) (set s at (get_or s up 0))
      moved = lower (n + 1) at x.w (get_or s up 0) s inside x.heap below
          (λ i a b. let q : i ≡ up = omega arith in rw q (omega arith))

      pub rise_step : Rise n key up s₀ (set s at (get_or s up 0))
      rise_step =
          let k = get_or s up 0 in
          record {
            low = omega (arith, x.low);
            long = length-set s at k ∙ x.long;
            rest = drop-set-lt (n + 1) s at k (omega (arith, x.low)) ∙ x.rest;
            keys = rw read (keys_move (n + 1) at s (omega (arith, x.low)) inside key k (insert_key key (sorted_of (take n s₀))) x.keys);
            w = k;
            over = omega arith;
            heap = subst (λ (l : List ℕ). IsHeap (n + 1) l) (sym (ap (λ (v : ℕ). set (set s at k) up v) (sym read) ∙ set-get_or (set s at k) up 0)) moved;
          }

    pub rise_end : ((i : ℕ) → 2 * i < at → at ≤ 2 * i + 2 → get_or s i 0 ≤ key) → Pushed n key s₀ (set s at key)
    rise_end parent = record {
      heap = lower (n + 1) at x.w key s inside x.heap x.over parent;
      keys = keys_fill (n + 1) at s (omega (arith, x.low)) inside key (insert_key key (sorted_of (take n s₀))) x.keys;
      rest = drop-set-lt (n + 1) s at key (omega (arith, x.low)) ∙ x.rest;
    }
