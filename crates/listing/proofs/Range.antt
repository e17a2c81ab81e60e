-- k from 1 to 16, as numbers.
use mathlib.Core.Path.{◌≡◌}
use mathlib.Core.Bool.{true}
use mathlib.Core.List.{[], ◌∷◌}
use Prim.Native.Nat.{ℕ, ◌≤◌}
use lib.Dec.{leb, leb→le}
use Rattle.integer.proofs.Tests.{passed, is_true}
use Rattle.dstree.specs.KNearest.{most_nearest, is_k}

pub k_range : (k : ℕ) → is_k k ≡ true → (1 ≤ k) × (k ≤ most_nearest)
k_range k e =
    let p = passed (leb 1 k) (leb k most_nearest ∷ []) (is_true {b = is_k k} e) in
    (leb→le 1 k p.0, leb→le k most_nearest p.1)
