-- Marks: a place for each number, which holds how often the number was met.
use Rattle.std.specs.Prelude.{ℕ, ◌+◌, ◌*◌, ◌-◌, ◌≤◌, ◌<◌, ◌≡◌, ◌⊎◌, Bool, true, false, List, length, get_or, T, ltb}
use Rattle.integer.specs.Words.{every, times_in}
use Rattle.integer.specs.Lists.{In}
use Rattle.numbers_fit.specs.Tests.{links_of}

-- the marks after some numbers more, none of which is met a second time
pub record MarksGrown (before after numbers : List ℕ) : Type 0 where
  pub size : length after ≡ length before
  pub at : (x : ℕ) → x < length before → get_or after x 0 ≡ get_or before x 0 + times_in x numbers
  pub single : ((x : ℕ) → get_or before x 0 ≤ 1) → (x : ℕ) → get_or after x 0 ≤ 1

-- with the marks before, one of some numbers is met again
pub record Twice (before numbers : List ℕ) : Type 0 where
  pub number : ℕ
  pub inside : number < length before
  pub again : 1 < get_or before number 0 + times_in number numbers

-- numbers are marked, or one of them is met again
pub record MarkedOrTwice (before after numbers : List ℕ) (all : Bool) : Type 0 where
  pub new : all ≡ true → MarksGrown before after numbers
  pub old : all ≡ false → Twice before numbers

-- numbers that are to be below a count: they are, and are marked, or one is not, or one is met again
pub record Named (count : ℕ) (before after numbers : List ℕ) (all : Bool) : Type 0 where
  pub below : all ≡ true → T (every (λ number. ltb number count) numbers)
  pub new : all ≡ true → MarksGrown before after numbers
  pub old : all ≡ false → T (every (λ number. ltb number count) numbers) → Twice before numbers

-- the link of trace i, of k: 0, or the number of a later trace
abbrev pub LinkRises : ℕ → ℕ → ℕ → Type 0
LinkRises k i link = (link ≡ 0) ⊎ ((i < link) × (link < k))

-- the links of k traces: all are so, and twice as many end a list as m + 1
pub record LinksRise (links : List ℕ) (k m : ℕ) : Type 0 where
  pub fit : (i : ℕ) → i < k → LinkRises k i (get_or links i 0)
  pub ends : 2 * (k - length (links_of links k)) ≡ m + 1

-- a place for each link of k traces holds 1, and any other what it did
pub record LinksMarked (links : List ℕ) (k : ℕ) (before after : List ℕ) : Type 0 where
  pub size : length after ≡ length before
  pub on : (i : ℕ) → i < k → get_or after (get_or links i 0) 0 ≡ 1
  pub off : (x : ℕ) → ((i : ℕ) → i < k → x ≡ get_or links i 0 → ⊥) → get_or after x 0 ≡ get_or before x 0
  pub kept : (x : ℕ) → get_or before x 0 ≡ 1 → get_or after x 0 ≡ 1

-- .. and each of the k traces is marked before or is a link
pub record LinksName (links : List ℕ) (k m : ℕ) (before : List ℕ) : Type 0 where
  pub rise : LinksRise links k m
  pub covers : (x : ℕ) → x < k → (get_or before x 0 ≡ 1) ⊎ In x (links_of links k)
