-- Ends that rise, with one more among them, rise still.
use Rattle.std.specs.Prelude.{if◌then◌else◌}
use mathlib.Core.Path.{◌≡◌, refl, subst}
use mathlib.Core.Bool.{Bool, true, false}
use mathlib.Core.List.{List, ◌∷◌}
use Prim.Native.Nat.{ℕ, suc, ◌≤◌}
use native.Mathlib.Omega.{arith}
use lib.Dec.{ltb}
use borrow.Author.Tests.{ltb-true, ltb-false}
use Rattle.integer.proofs.Lists.{In, first, later}
use Rattle.dstree.specs.Adding.{cut_at}
use Rattle.dstree.specs.Formed.{Rises, rises_none, rises_more}

pub rise_in : {n from x : ℕ} {l : List ℕ} → Rises n from l → In x l → from ≤ x
rise_in (rises_more h k r) first = h
rise_in (rises_more h k r) (later i) = omega (arith, rise_in r i)
rise_in rises_none i = elim i [ ]

pub rise_cut : {n from : ℕ} (m : ℕ) {l : List ℕ} → Rises n from l → from ≤ m → m ≤ n → (In m l → ⊥) → Rises n from (cut_at m l)
unfolding cut_at
rise_cut m rises_none h k f = rises_more h k rises_none
rise_cut {n} {from} m (rises_more {end} {rest} a b r) h k f = by (ltb m end) refl (rise_cut m r)
  where
    by : (t : Bool) → ltb m end ≡ t → (suc end ≤ m → m ≤ n → (In m rest → ⊥) → Rises n (suc end) (cut_at m rest)) → Rises n from (if t then m ∷ end ∷ rest else end ∷ cut_at m rest)
    by true e rec = rises_more h k (rises_more (ltb-true m end e) b r)
    by false e rec = rises_more a b (rec (strict (ltb-false m end e)) k (λ i. f (later i)))
      where
        strict : end ≤ m → suc end ≤ m
        strict g = omega (arith, other)
          where
            other : end ≡ m → ⊥
            other p = f (subst (λ (x : ℕ). In x (end ∷ rest)) p first)
