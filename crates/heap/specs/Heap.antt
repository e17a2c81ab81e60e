-- A binary heap in the first n places of a slice: no key is below the one above it. What a caller reads of it is `sorted_of (take n s)`, its
-- keys, the least first. Each record says what one call leaves: a heap again, its keys, and every place behind them.
use Rattle.std.specs.Prelude.{◌≡◌, List, ◌∷◌, ℕ, ◌+◌, ◌*◌, ◌-◌, ◌<◌, ◌≤◌, get_or, take, drop, set}
use Rattle.heap.specs.Keys.{insert_key, sorted_of}

-- the places below place i are 2 i + 1 and 2 i + 2. (Said by bounds on j, so that no quotient or remainder is spoken of)
abbrev pub IsHeap : ℕ → List ℕ → Type 0
IsHeap n s = (i j : ℕ) → 2 * i < j → j ≤ 2 * i + 2 → j < n → get_or s i 0 ≤ get_or s j 0

-- a key more
pub record Pushed (n key : ℕ) (s s' : List ℕ) : Type 0 where
  pub heap : IsHeap (n + 1) s'
  pub keys : sorted_of (take (n + 1) s') ≡ insert_key key (sorted_of (take n s))
  pub rest : drop (n + 1) s' ≡ drop (n + 1) s

-- the least key, r
pub record Least (n : ℕ) (s : List ℕ) (r : ℕ) : Type 0 where
  pub others : List ℕ
  pub keys : sorted_of (take n s) ≡ r ∷ others

-- the least key, r, less; the place that falls free is 0
pub record Popped (n r : ℕ) (s s' : List ℕ) : Type 0 where
  pub heap : IsHeap (n - 1) s'
  pub keys : sorted_of (take n s) ≡ r ∷ sorted_of (take (n - 1) s')
  pub rest : drop (n - 1) s' ≡ 0 ∷ drop n s

-- a key in the place of the least
pub record Sunk (n key : ℕ) (s s' : List ℕ) : Type 0 where
  pub heap : IsHeap n s'
  pub keys : sorted_of (take n s') ≡ sorted_of (take n (set s 0 key))
  pub rest : drop n s' ≡ drop n s

-- ---- inside `sink`

-- r is the place of the lesser of the keys at `left` and `left + 1`, those of them that are below n
pub record Lesser (n left : ℕ) (s : List ℕ) (r : ℕ) : Type 0 where
  pub low : left ≤ r
  pub high : r ≤ left + 1
  pub room : r < n
  pub first : get_or s r 0 ≤ get_or s left 0
  pub second : left + 1 < n → get_or s r 0 ≤ get_or s (left + 1) 0
