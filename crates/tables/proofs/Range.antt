-- Measures that pass the test are in range; and what of that follows for products.
use mathlib.Core.Path.{◌≡◌, refl}
use mathlib.Core.Bool.{Bool, true, false, ◌&&◌}
use Prim.Native.Nat.{ℕ, ◌*◌, ◌<◌, ◌≤◌, ◌^◌}
use native.Mathlib.Nat.{mul-le-mul, lt_of_le_of_lt}
use native.Mathlib.Omega.{arith}
use lib.Dec.{leb, lit<}
use borrow.Author.Tests.{leb-true}
use Rattle.dstree.specs.Measures.{Measures, in_range}
use Rattle.tables.specs.Judge.{InRange}

both : (a b : Bool) → a && b ≡ true → (a ≡ true) × (b ≡ true)
both true b e = (refl, e)
both false b e = let z : ◌≡◌ {A = ℕ} 0 1 = cc in absurd (omega arith)

pub in_range_lem : (m : Measures) → in_range m ≡ true → InRange m
unfolding in_range
in_range_lem m e =
    let all = both (leb 1 m.n && leb m.n 256 && (leb 1 m.capacity && leb m.capacity 4096)) _ e in
    let first = both (leb 1 m.n && leb m.n 256) _ all.0 in
    let n = both (leb 1 m.n) _ first.0 in
    let capacity = both (leb 1 m.capacity) _ first.1 in
    let leaf = both (leb 1 m.leaf_size) _ all.1 in
    record {
      n_low = leb-true _ _ n.0;
      n_high = leb-true _ _ n.1;
      capacity_low = leb-true _ _ capacity.0;
      capacity_high = leb-true _ _ capacity.1;
      leaf_low = leb-true _ _ leaf.0;
      leaf_high = leb-true _ _ leaf.1;
    }

-- a number of samples of measures in range is a machine number
pub samples_fit : (capacity n : ℕ) → capacity ≤ 4096 → n ≤ 256 → capacity * n < 2 ^ 64
samples_fit capacity n c h = lt_of_le_of_lt (mul-le-mul {n₁ = capacity} {m₁ = n} {n₂ = 4096} {m₂ = 256} c h) (lit< tt)
