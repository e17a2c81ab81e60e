-- `sink`: a hole goes down from place 0. The key that was moved last still stands in it, so that the places stay a heap on the way.
use mathlib.Core.Path.{◌≡◌, refl, sym, ◌∙◌}
use mathlib.Core.List.{List}
use Prim.Native.Nat.{ℕ, ◌+◌, ◌*◌, ◌<◌, ◌≤◌}
use native.Mathlib.Omega.{arith}
use lib.ListN.{length, get_or, set, take, drop, length-set}
use lib.Seq.{get_or-set_other, drop-set-lt}
use Rattle.heap.specs.Keys.{insert_key, sorted_of}
use Rattle.heap.specs.Heap.{IsHeap, Sunk}
use Rattle.heap.proofs.Shape.{raise, keys_move, keys_fill, keys_set}

-- the hole is at place `at`, and s₀ is the slice before the call
pub record Sink (n key at : ℕ) (s₀ s : List ℕ) : Type 0 where
  pub room : at < n
  pub long : length s ≡ length s₀
  pub rest : drop n s ≡ drop n s₀
  pub keys : insert_key key (sorted_of (take n s)) ≡ insert_key (get_or s at 0) (sorted_of (take n (set s₀ 0 key)))
  pub heap : IsHeap n s
  pub top : get_or s at 0 ≤ key

module _ (n key : ℕ) (s₀ : List ℕ) (some : 0 < n) (fits : n ≤ length s₀) where
  pub sink_start : IsHeap n s₀ → get_or s₀ 0 0 ≤ key → Sink n key 0 s₀ s₀
  sink_start heap top = record {
    room = some;
    long = refl;
    rest = refl;
    keys = sym (keys_set n 0 s₀ some (omega arith) key);
    heap = heap;
    top = top;
  }

  module _ (at : ℕ) (s : List ℕ) (x : Sink n key at s₀ s) where
    inside : at < length s
    inside = omega (arith, x.room, x.long)

    pub sink_step : (c : ℕ) → 2 * at < c → c ≤ 2 * at + 2 → c < n → get_or s c 0 ≤ key
        → ((j : ℕ) → 2 * at < j → j ≤ 2 * at + 2 → j < n → get_or s c 0 ≤ get_or s j 0) → Sink n key c s₀ (set s at (get_or s c 0))
    sink_step c a b r less child =
        let k = get_or s c 0 in
        let off : c ≡ at → ⊥ = λ q. omega arith in
        let read : get_or (set s at k) c 0 ≡ k = get_or-set_other s at c k 0 off in
        record {
          room = r;
          long = length-set s at k ∙ x.long;
          rest = drop-set-lt n s at k x.room ∙ x.rest;
          keys = rw read (keys_move n at s x.room inside key k (sorted_of (take n (set s₀ 0 key))) x.keys);
          heap = raise n at k s inside x.heap (x.heap at c a b r) child;
          top = rw read less;
        }

    pub sink_end : ((j : ℕ) → 2 * at < j → j ≤ 2 * at + 2 → j < n → key ≤ get_or s j 0) → Sunk n key s₀ (set s at key)
    sink_end child = record {
      heap = raise n at key s inside x.heap x.top child;
      keys = keys_fill n at s x.room inside key (sorted_of (take n (set s₀ 0 key))) x.keys;
      rest = drop-set-lt n s at key x.room ∙ x.rest;
    }
