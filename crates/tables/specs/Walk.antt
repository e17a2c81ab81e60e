-- The traces that tables store and a leaf's list of them, as code walks it.
use Rattle.std.specs.Prelude.{ℕ, suc, ◌*◌, ◌≤◌, ◌<◌, ◌≡◌, ◌⊎◌, List, [], ◌∷◌, map, ℤ, length, get_or, eqb, if◌then◌else◌}
use Rattle.integer.specs.Words.{counting}
use Rattle.dstree.specs.Measures.{Trace, most_samples, most_traces}
use Rattle.tables.specs.View.{trace_in, numbers_from}

-- the first k traces of n samples
abbrev pub stored_in : List ℤ → ℕ → ℕ → List Trace
stored_in samples n k = map (trace_in samples n) (counting k 0)

-- a leaf's trace numbers from its first on, k traces being stored
abbrev pub numbers_of : List ℕ → ℕ → ℕ → List ℕ
numbers_of links k first = numbers_from links (suc k) first

-- each stored trace's link is 0 or a stored trace above it, so that every list ends
abbrev pub Rising : List ℕ → ℕ → Type 0
Rising links k = (s : ℕ) → s < k → (get_or links s 0 ≡ 0) ⊎ ((s < get_or links s 0) × (get_or links s 0 < k))

-- the links follow a list to its end
pub data Linked (links : List ℕ) : List ℕ → Type 0 where
  l_end : {x : ℕ} → get_or links x 0 ≡ 0 → Linked links (x ∷ [])
  l_on : {x y : ℕ} {l : List ℕ} → get_or links x 0 ≡ y → 0 < y → Linked links (y ∷ l) → Linked links (x ∷ y ∷ l)

-- the number behind t in its list, and k behind the last one
abbrev pub behind_of : List ℕ → ℕ → ℕ → ℕ
behind_of links k t = if eqb (get_or links t 0) 0 then k else get_or links t 0

-- samples and links of k traces of n samples, and a leaf's first trace
pub record Stored (samples : List ℤ) (links : List ℕ) (n k first : ℕ) : Type 0 where
  pub wide : 1 ≤ n
  pub narrow : n ≤ most_samples
  pub few : k ≤ most_traces
  pub samples_room : k * n ≤ length samples
  pub links_room : k ≤ length links
  pub rising : Rising links k
  pub inside : first < k
