-- The greatest gain wins, the earliest among equals: the winner so far is kept at an equal gain, so only a greater one behind it takes its
-- place.
use Rattle.std.specs.Prelude.{if◌then◌else◌}
use mathlib.Core.Path.{◌≡◌, refl, sym, ◌∙◌, ap, subst}
use mathlib.Core.Logic.{◌⊎◌, inl, inr}
use mathlib.Core.Bool.{Bool, true, false, not}
use mathlib.Core.List.{List, [], ◌∷◌, ◌++◌, foldl, append_assoc, append-nil}
use Prim.Native.Nat.{ℕ}
use native.Mathlib.Omega.{arith}
use lib.IntN.{ℤ}
use lib.Signed.{lt_z, le_z, lt_z_yes, lt_z_no, le_z_yes}
use lib.Dec.{T}
use Rattle.integer.specs.Words.{every}
use Rattle.integer.proofs.Order.{◌<ℤ◌, ◌≤ℤ◌, ≤ℤ→, <ℤ→, →<ℤ}
use Rattle.integer.proofs.Lists.{In, in_cons, in_nil, in_append, every_of, from_every}
use Rattle.dstree.specs.Adding.{Split, best_by}
use Rattle.dstree.specs.Claims.{Wins, Winning}

module _ (gain_of : Split → ℤ) where
  abbrev better : Split → Split → Split
  better a b = if lt_z (gain_of a) (gain_of b) then b else a

  -- one that has no more than a has less than b, if a has
  below : (x a b : Split) → gain_of x ≤ℤ gain_of a → gain_of a <ℤ gain_of b → T (lt_z (gain_of x) (gain_of b))
  below x a b h k = (→<ℤ {a = gain_of x} {b = gain_of b} (omega (arith, ≤ℤ→ h, <ℤ→ k))).lt

  all_below : (all : List Split) (a b : Split) → Wins gain_of all a → gain_of a <ℤ gain_of b → T (every (λ s. lt_z (gain_of s) (gain_of b)) all)
  all_below all a b w k = every_of (λ s. lt_z (gain_of s) (gain_of b)) all (λ x i. at x (in_append w.earlier (subst (λ (l : List Split). In x l) w.among i)))
    where
      no_more : (x : Split) → T (le_z (gain_of x) (gain_of a)) → T (lt_z (gain_of x) (gain_of b))
      no_more x t = below x a b (le_z_yes t) k

      behind : (x : Split) → (x ≡ a) ⊎ In x w.later → T (lt_z (gain_of x) (gain_of b))
      behind x (inl e) = rw e k.lt
      behind x (inr i) = no_more x (from_every (λ s. le_z (gain_of s) (gain_of a)) w.later w.no_more_behind i)

      at : (x : Split) → In x w.earlier ⊎ In x (a ∷ w.later) → T (lt_z (gain_of x) (gain_of b))
      at x (inl i) = (→<ℤ {a = gain_of x} {b = gain_of b}
          (omega (arith, <ℤ→ {a = gain_of x} {b = gain_of a} (lt_z_yes (from_every (λ s. lt_z (gain_of s) (gain_of a)) w.earlier w.less_before i)), <ℤ→ k))).lt
      at x (inr i) = behind x (in_cons i)

  wins_more : (all : List Split) (a b : Split) → Wins gain_of all a → Wins gain_of (all ++ (b ∷ [])) (better a b)
  unfolding every
  wins_more all a b w = by (lt_z (gain_of a) (gain_of b)) refl
    where
      one_more : T (not (lt_z (gain_of a) (gain_of b))) → T (every (λ s. le_z (gain_of s) (gain_of a)) (w.later ++ (b ∷ [])))
      one_more t = every_of (λ s. le_z (gain_of s) (gain_of a)) (w.later ++ (b ∷ [])) (λ x i. at x (in_append w.later i))
        where
          only : (x : Split) → (x ≡ b) ⊎ In x [] → T (le_z (gain_of x) (gain_of a))
          only x (inl e) = rw e (lt_z_no {a = gain_of a} {b = gain_of b} t).le
          only x (inr i) = absurd (in_nil i)

          at : (x : Split) → In x w.later ⊎ In x (b ∷ []) → T (le_z (gain_of x) (gain_of a))
          at x (inl i) = from_every (λ s. le_z (gain_of s) (gain_of a)) w.later w.no_more_behind i
          at x (inr i) = only x (in_cons i)

      by : (c : Bool) → lt_z (gain_of a) (gain_of b) ≡ c → Wins gain_of (all ++ (b ∷ [])) (if c then b else a)
      by true e = record { earlier = all; later = []; among = refl; less_before = all_below all a b w (lt_z_yes (subst T (sym e) tt)); no_more_behind = tt }
      by false e = record {
        earlier = w.earlier;
        later = w.later ++ (b ∷ []);
        among = ap (λ (l : List Split). l ++ (b ∷ [])) w.among ∙ append_assoc w.earlier (a ∷ w.later) (b ∷ []);
        less_before = w.less_before;
        no_more_behind = one_more (subst (λ (c : Bool). T (not c)) (sym e) tt);
      }

  wins_all : (all : List Split) (a : Split) → Wins gain_of all a → (more : List Split) → Wins gain_of (all ++ more) (foldl better a more)
  wins_all all a w [] = subst (λ (l : List Split). Wins gain_of l a) (sym (append-nil all)) w
  wins_all all a w (b ∷ more) = subst (λ (l : List Split). Wins gain_of l (foldl better (better a b) more))
      (append_assoc all (b ∷ []) more) (wins_all (all ++ (b ∷ [])) (better a b) (wins_more all a b w) more)

-- "Among the candidates that part the leaf the greatest gain wins, the earliest among equals"
pub winning : Winning
unfolding best_by every
winning gain_of [] winner e = let z : ◌≡◌ {A = ℕ} 0 1 = cc in absurd (omega arith)
winning gain_of (a ∷ more) winner e =
    let q : foldl (better gain_of) a more ≡ winner = cc in
    subst (Wins gain_of (a ∷ more)) q (wins_all gain_of (a ∷ []) a (record { earlier = []; later = []; among = refl; less_before = tt; no_more_behind = tt }) more)
