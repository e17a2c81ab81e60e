-- `band_counts::list::count_leaf` meets its contract: the bands taken have the leaf, and those to come stand as they did.
use mathlib.Core.Path.{◌≡◌}
use Prim.Native.Nat.{ℕ, ◌*◌, ◌≤◌, ◌<◌}
use mathlib.Core.List.{List}
use lib.ListN.{length, drop}
use Rattle.band_counts.specs.Counted.{count_at, count_with}
use Rattle.band_counts.proofs.list.count_leaf.Given as goal

-- of the bands, those below `band` have the leaf
pub record Added (bands by_bound by_upper traces : ℕ) (list₀ list : List ℕ) (band : ℕ) : Type 0 where
  pub size : length list ≡ length list₀
  pub taken : (k : ℕ) → k < band → count_at list k ≡ count_with by_bound by_upper traces k (count_at list₀ k)
  pub to_come : (k : ℕ) → band ≤ k → k < bands → count_at list k ≡ count_at list₀ k
  pub rest : drop (2 * bands) list ≡ drop (2 * bands) list₀

abbrev pub invariant-loop-band : goal.invariant-loop-band
invariant-loop-band l = Added l.bands l.by_bound l.by_upper l.traces l.initial.list l.list l.band
