-- Marked nodes: how many they are.
use Prim.Native.Nat.{ℕ, ◌+◌, ◌≤◌, ◌<◌}
use mathlib.Core.Path.{◌≡◌, refl, sym, ap}
use mathlib.Core.Bool.{Bool, true, false, not}
use mathlib.Core.List.{List}
use native.Mathlib.Omega.{arith}
use lib.ListN.{length, get_or, set}
use lib.Dec.{eqb}
use borrow.Author.Tests.{eqb-true}
use lib.Seq.{get_or-set_same, get_or-set_other}
use Rattle.integer.specs.Words.{counting}
use Rattle.integer.proofs.Lists.{same_or_not, those_none, those_lengths, in_counting, from_counting, counting_up}
use Rattle.integer.proofs.Times.{up_once, counting_length, those_more}
use Rattle.batch_leaves.specs.LeavesRead.{is_marked, marked_of}

-- a mark is any number but 0
pub marked_yes : (marks : List ℕ) (j : ℕ) → (get_or marks j 0 ≡ 0 → ⊥) → is_marked marks j ≡ true
marked_yes marks j f = by (eqb (get_or marks j 0) 0) refl
  where
    by : (b : Bool) → eqb (get_or marks j 0) 0 ≡ b → not b ≡ true
    by true e = absurd (f (eqb-true (get_or marks j 0) 0 e))
    by false e = refl

pub marked_no : (marks : List ℕ) (j : ℕ) → get_or marks j 0 ≡ 0 → is_marked marks j ≡ false
marked_no marks j e = rw e

-- ---- how many they are

pub marked_none : (marks : List ℕ) (count : ℕ) → ((j : ℕ) → j < count → get_or marks j 0 ≡ 0) → 0 ≡ length (marked_of marks count)
marked_none marks count h =
    sym (ap length (those_none (is_marked marks) (counting count 0)
    (λ j i. marked_no marks j (h j (omega (arith, from_counting count 0 i))))))

pub marked_most : (marks : List ℕ) (count : ℕ) → length (marked_of marks count) ≤ count
marked_most marks count = omega (arith, those_lengths (is_marked marks) (counting count 0), counting_length count 0)

-- a mark for a node that had none
pub marked_more : (marks : List ℕ) (count j : ℕ) → j < count → j < length marks → is_marked marks j ≡ false
    → length (marked_of (set marks j 1) count) ≡ length (marked_of marks count) + 1
marked_more marks count j h room e =
    let same = get_or-set_same marks j 1 0 room in
    omega (
      arith,
      those_more (is_marked marks) (is_marked (set marks j 1)) j e (rw same) (λ k f. let o = get_or-set_other marks j k 1 0 f in rw o)
          (counting count 0),
      up_once (counting_up count 0) (in_counting count 0 j (omega arith) (omega arith)),
    )

-- .. and no mark is above 1 yet
pub once_more : (marks : List ℕ) (count j : ℕ) → j < length marks → ((k : ℕ) → k < count → get_or marks k 0 ≤ 1)
    → (k : ℕ) → k < count → get_or (set marks j 1) k 0 ≤ 1
once_more marks count j room once k h = by (same_or_not k j)
  where
    by : Dec (k ≡ j) → get_or (set marks j 1) k 0 ≤ 1
    by (yes e) = rw e (omega (arith, get_or-set_same marks j 1 0 room))
    by (no f) = omega (arith, get_or-set_other marks j k 1 0 f, once k h)
