-- The winner of two lists of one: the bench's where it is the nearer, or the only one.
use Prim.Native.Nat.{ℕ, zero, suc, ◌≤◌}
use mathlib.Core.Path.{◌≡◌, refl}
use mathlib.Core.Bool.{Bool, true, false, not, ◌&&◌, ◌||◌}
use mathlib.Core.Option.{none, some}
use mathlib.Core.List.{List, [], ◌∷◌}
use native.Mathlib.Omega.{arith}
use lib.ListN.{get_or}
use lib.Dec.{eqb, ltb}
use Rattle.integer.specs.Words.{counting}
use Rattle.integer.specs.Sorting.{at_place}
use Rattle.integer.proofs.Tests.{is_true, is_false}
use Rattle.dstree.specs.KNearest.{kth}
use Rattle.dstree.specs.Pair.{of_factory, of_bench, won, winner_of}
use Rattle.reading.specs.Listed.{record_at, nears_in}

none_listed : (l : List ℕ) → kth 1 (nears_in 0 l) ≡ none
unfolding kth at_place nears_in counting
none_listed l = refl

one_listed : (l : List ℕ) → kth 1 (nears_in 1 l) ≡ some (record_at l 0)
unfolding kth at_place nears_in counting
one_listed l = refl

-- what `bench_wins` answers
abbrev bench_wins : ℕ → List ℕ → ℕ → List ℕ → Bool
bench_wins m l n k = not (eqb n 0) && (eqb m 0 || ltb (get_or k 1 0) (get_or l 1 0))

pub bench_answer : (m n : ℕ) (l k : List ℕ) → m ≤ 1 → n ≤ 1 → bench_wins m l n k ≡ true
    → won of_bench (record_at k 0) ≡ winner_of (kth 1 (nears_in m l)) (kth 1 (nears_in n k))
unfolding winner_of
bench_answer zero zero l k h g e = absurd (is_true e)
bench_answer zero (suc zero) l k h g e = rw (none_listed l, one_listed k)
bench_answer zero (suc (suc n)) l k h g e = absurd (omega arith)
bench_answer (suc zero) zero l k h g e = absurd (is_true e)
bench_answer (suc zero) (suc zero) l k h g e = rw (one_listed l, one_listed k, e)
bench_answer (suc zero) (suc (suc n)) l k h g e = absurd (omega arith)
bench_answer (suc (suc m)) n l k h g e = absurd (omega arith)

pub factory_answer : (m n : ℕ) (l k : List ℕ) → m ≤ 1 → n ≤ 1 → (m ≡ 0 → l ≡ 0 ∷ 0 ∷ []) → bench_wins m l n k ≡ false
    → won of_factory (record_at l 0) ≡ winner_of (kth 1 (nears_in m l)) (kth 1 (nears_in n k))
unfolding winner_of
factory_answer zero zero l k h g z e = rw (none_listed l, none_listed k, z refl)
factory_answer zero (suc zero) l k h g z e = absurd (is_false e)
factory_answer zero (suc (suc n)) l k h g z e = absurd (omega arith)
factory_answer (suc zero) zero l k h g z e = rw (one_listed l, none_listed k)
factory_answer (suc zero) (suc zero) l k h g z e = rw (one_listed l, one_listed k, e)
factory_answer (suc zero) (suc (suc n)) l k h g z e = absurd (omega arith)
factory_answer (suc (suc m)) n l k h g z e = absurd (omega arith)
