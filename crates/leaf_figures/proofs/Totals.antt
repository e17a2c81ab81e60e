-- A spread's total, segment by segment, and ends that rise.
use mathlib.Core.Path.{◌≡◌, refl, sym, subst}
use mathlib.Core.List.{List, ◌∷◌}
use Prim.Native.Nat.{ℕ, ◌+◌, ◌≤◌, ◌<◌}
use native.Mathlib.Numerals.{add-one}
use lib.ListN.{length, get_or, take, drop}
use Rattle.dstree.specs.Measures.{Trace}
use Rattle.dstree.specs.Figures.{run}
use Rattle.dstree.specs.Node.{total_over}
use Rattle.dstree.specs.Adding.{segment_of, segments_from, spread_on, spread}
use Rattle.dstree.specs.Formed.{Rises, rises_more}
use Rattle.leaf_figures.proofs.Placed.{end_at, no_end}

-- the spread over some ends, the first segment from sample `first` on
abbrev pub spread_from : ℕ → List ℕ → List Trace → ℕ
spread_from first ends traces = total_over spread_on first (segments_from first ends traces)

pub record RisesOn (n first end : ℕ) (rest : List ℕ) : Type 0 where
  pub rises : first ≤ end
  pub to_n : end ≤ n
  pub on : Rises n (end + 1) rest

next_of : {n first end : ℕ} {rest : List ℕ} → Rises n first (end ∷ rest) → RisesOn n first end rest
next_of {n} {first} {end} {rest} (rises_more a b r) = record { rises = a; to_n = b; on = subst (λ (x : ℕ). Rises n x rest) (sym (add-one end)) r }

module _ (at : List ℕ) (count : ℕ) (room : count ≤ length at) (i : ℕ) (h : i < count) where
  pub next_at : {n first : ℕ} → Rises n first (drop i (take count at)) → RisesOn n first (get_or at i 0) (drop (i + 1) (take count at))
  next_at {n} {first} r = next_of (subst (Rises n first) (end_at at count room i h) r)

  pub spread_more : (first : ℕ) (traces : List Trace)
      → spread_from first (drop i (take count at)) traces ≡ spread_on (run first (get_or at i 0)) (segment_of traces (run first (get_or at i 0))) + spread_from
      (get_or at i 0 + 1) (drop (i + 1) (take count at)) traces
  unfolding total_over segments_from segment_of
  spread_more first traces = rw (end_at at count room i h, add-one (get_or at i 0))

pub spread_end : (at : List ℕ) (count : ℕ) → count ≤ length at → (i : ℕ) → count ≤ i → (first : ℕ) (traces : List Trace) → spread_from first (drop i (take count at)) traces ≡ 0
unfolding total_over segments_from
spread_end at count room i h first traces = rw (no_end at count room i h)

pub spread_is : (ends : List ℕ) (traces : List Trace) → spread_from 1 ends traces ≡ spread ends traces
unfolding spread
spread_is ends traces = refl
