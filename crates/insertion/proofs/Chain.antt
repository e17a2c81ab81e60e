-- The last of a leaf's list of traces: as a walk along the links meets them, the last of what is left is the last of all, and it is a
-- stored trace.
use mathlib.Core.Path.{◌≡◌, sym, ap, subst, ◌∙◌}
use mathlib.Core.List.{List, ◌∷◌}
use Prim.Native.Nat.{ℕ, ◌≤◌, ◌<◌}
use Rattle.integer.specs.Words.{last_of}
use Rattle.integer.proofs.Lists as lists
use Rattle.tables.specs.Walk.{Rising, numbers_of, behind_of}
use Rattle.tables.proofs.Listed.{met_from, met_start, met_end, met_more, numbers_below}

module _ (links : List ℕ) (k : ℕ) (up : Rising links k) where
  pub last_step : (x : ℕ) → x < k → behind_of links k x < k → last_of (met_from links k x) ≡ last_of (met_from links k (behind_of links k x))
  last_step x h g =
      let y = behind_of links k x in
      let e = met_more links k up y g in
      ap last_of (met_more links k up x h) ∙ (ap (λ (l : List ℕ). last_of (x ∷ l)) e ∙ sym (ap last_of e))

  pub last_end : (x : ℕ) → x < k → k ≤ behind_of links k x → last_of (met_from links k x) ≡ x
  last_end x h g = ap last_of (met_more links k up x h) ∙ ap (λ (l : List ℕ). last_of (x ∷ l)) (met_end links k (behind_of links k x) g)

  pub last_in : (x : ℕ) → x < k → last_of (numbers_of links k x) < k
  last_in x h =
      let e = sym (met_start links k x h) ∙ met_more links k up x h in
      numbers_below links k up x (last_of (numbers_of links k x)) h
      (subst (λ (l : List ℕ). lists.In (last_of l) l) (sym e) (lists.last_in x (met_from links k (behind_of links k x))))
