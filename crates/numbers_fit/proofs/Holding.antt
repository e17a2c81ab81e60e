-- Marks and the rule on leaves that they decide: what names traces is marked once each, exactly if every trace number is in one leaf.
use Rattle.std.specs.Prelude.{if◌then◌else◌}
use Prim.Native.Nat.{ℕ, ◌+◌, ◌≤◌, ◌<◌}
use mathlib.Core.Path.{◌≡◌, refl, sym, ◌∙◌, subst}
use mathlib.Core.Bool.{Bool, true, false}
use mathlib.Core.Logic.{◌⊎◌, inl, inr}
use mathlib.Core.List.{List, [], ◌∷◌, ◌++◌}
use native.Mathlib.Omega.{arith}
use native.Mathlib.Decide.{dec_lt}
use lib.IntN.{ℤ}
use lib.ListN.{length, length-append, get_or, replicate, length-replicate}
use lib.Dec.{T, eqb}
use borrow.Author.Tests.{eq-eqb, ne_eqb, eqb-true}
use Rattle.integer.specs.Words.{counting, times_in}
use Rattle.integer.proofs.Lists.{same_or_not, In, first, in_flat, InFlat, flat, from_flat, in_counting, from_counting}
use Rattle.integer.proofs.Times.{times_append, in_times, times_in_lem, once_length, all_once}
use Rattle.integer.proofs.Tests.{clash}
use Rattle.records_fit.specs.Fits.{AllFit}
use Rattle.records_fit.proofs.Limits.{passing, failing}
use Rattle.records_fit.proofs.Loops.{all_passed, each_passes}
use Rattle.numbers_fit.specs.Marks.{MarksGrown, Named, LinkRises, LinksRise, LinksMarked, LinksName}
use Rattle.numbers_fit.specs.Tests.{children_once, firsts_of, not_zero, link_at, links_of, leaves_hold, marked_once}
use Rattle.numbers_fit.proofs.Growth.{none_at}
use Rattle.numbers_fit.proofs.Naming.{link_in, leaves_many, leaves_sound, links_fit, called_once, firsts_low, called_low}

-- no marks of traces
abbrev unnamed : List ℕ
unnamed = replicate 4096 0

-- ---- links that are marked

module _ (links : List ℕ) (k m : ℕ) {before after : List ℕ} (w : LinksMarked links k before after) where
  -- a link that is not 0
  in_link : (x y : ℕ) → y < k → x ≡ get_or links y 0 → (x ≡ 0 → ⊥) → In x (links_of links k)
  in_link x y h e f =
      in_flat (link_at links) (in_counting k 0 y (omega arith) (omega arith))
      (subst (λ (z : ℕ). In x (not_zero z)) e (subst (λ (b : Bool). In x (if b then [] else x ∷ [])) (sym (ne_eqb x 0 f)) first))

  pub all_named : LinksRise links k m → get_or before 0 0 ≡ 1 → marked_once after 0 k ≡ true → LinksName links k m before
  all_named l z t = record { rise = l; covers = λ x h. by x h (dec_lt 0 (times_in x (links_of links k))) (same_or_not x 0) }
    where
      by : (x : ℕ) → x < k → Dec (0 < times_in x (links_of links k)) → Dec (x ≡ 0) → (get_or before x 0 ≡ 1) ⊎ In x (links_of links k)
      by x h (yes p) d = inr (times_in_lem x (links_of links k) p)
      by x h (no f) (yes e) = inl (subst (λ (y : ℕ). get_or before y 0 ≡ 1) (sym e) z)
      by x h (no f) (no g) =
          inl (sym (w.off x (λ y l e. f (in_times (in_link x y l e g))))
          ∙ eqb-true (get_or after x 0) 1 (each_passes (λ number. eqb (get_or after number 0) 1) k 0 t x (omega arith) (omega (arith, h))))

  pub never_named : marked_once after 0 k ≡ false → LinksName links k m before → ⊥
  never_named e l = clash (all_passed (λ number. eqb (get_or after number 0) 1) k 0 (λ x g h. eq-eqb (get_or after x 0) 1 (by x (l.covers x (omega (arith, h))))) ∙ e)
    where
      linked : (x : ℕ) → InFlat (link_at links) x (counting k 0) → get_or after x 0 ≡ 1
      linked x (flat y p q) =
          subst (λ (z : ℕ). get_or after z 0 ≡ 1) (sym (link_in links y x q).0) (w.on y (omega (arith, (from_counting k 0 p).1)))

      by : (x : ℕ) → (get_or before x 0 ≡ 1) ⊎ In x (links_of links k) → get_or after x 0 ≡ 1
      by x (inl p) = w.kept x p
      by x (inr i) = linked x (from_flat (link_at links) (counting k 0) i)

-- trace 0 is no link
pub first_named : (links : List ℕ) (k m : ℕ) {before : List ℕ} → (get_or before 0 0 ≡ 1 → ⊥) → LinksName links k m before → ⊥
first_named links k m {before} f l = by (l.covers 0 (omega (arith, l.rise.ends)))
  where
    linked : InFlat (link_at links) 0 (counting k 0) → ⊥
    linked (flat y p q) = let e = link_in links y 0 q in e.1 (sym e.0)

    by : (get_or before 0 0 ≡ 1) ⊎ In 0 (links_of links k) → ⊥
    by (inl p) = f p
    by (inr i) = linked (from_flat (link_at links) (counting k 0) i)

-- ---- leaves, by what names traces

module _ (nodes : List ℤ) (m : ℕ) (a : AllFit m nodes) (links : List ℕ) (k : ℕ) (few : k ≤ 4096) where
  abbrev firsts : List ℕ
  firsts = firsts_of nodes m

  abbrev follow : List ℕ
  follow = links_of links k

  -- leaves that hold are named once each, so that no name is met again
  module _ (t : T (leaves_hold m nodes k links)) where
    called_under : (x : ℕ) → In x (firsts ++ follow) → x < k
    called_under = called_low nodes m a links k (firsts_low nodes m a links k t) (links_fit nodes m a links k t)

    never_twice : (x : ℕ) → 1 < times_in x firsts + times_in x follow → ⊥
    never_twice x h =
        let e = times_append x firsts follow in
        omega (arith, h, e, called_once nodes m a links k t x (called_under x (times_in_lem x (firsts ++ follow) (omega (arith, h, e)))))

    called_many : length firsts + length follow ≡ k
    called_many =
        sym (length-append firsts follow)
        ∙ once_length k 0 (firsts ++ follow) (λ x _ h. called_once nodes m a links k t x (omega (arith, h))) (λ x i. (omega arith, omega (arith, called_under x i)))

  -- a leaf's first number is refused
  pub firsts_refused : {after : List ℕ} {r : Bool} → Named k unnamed after firsts r → r ≡ false → false ≡ leaves_hold m nodes k links
  firsts_refused n e = failing never
    where
      never : T (leaves_hold m nodes k links) → ⊥
      never t = let w = n.old e (firsts_low nodes m a links k t) in never_twice t w.number (omega (arith, w.again, none_at 4096 w.number))

  -- the first numbers are marked
  module _ (h : 0 < m) (c : children_once m nodes ≡ true) {marks : List ℕ} {r : Bool} (n : Named k unnamed marks firsts r) (e : r ≡ true) where
    grown : MarksGrown unnamed marks firsts
    grown = n.new e

    at : (x : ℕ) → x < 4096 → get_or marks x 0 ≡ times_in x firsts
    at x g = omega (arith, grown.at x (omega (arith, g, length-replicate {A = ℕ} 4096 0)), none_at 4096 x)

    links_refuse : (LinksName links k m marks → ⊥) → T (leaves_hold m nodes k links) → ⊥
    links_refuse l t = l (record { rise = record { fit = links_fit nodes m a links k t; ends = omega (arith, called_many t, leaves_many nodes m a h c) }; covers = covers })
      where
        by : (x : ℕ) → x < k → Dec (0 < times_in x follow) → (get_or marks x 0 ≡ 1) ⊎ In x follow
        by x g (yes p) = inr (times_in_lem x follow p)
        by x g (no f) = inl (omega (arith, at x (omega (arith, g, few)), times_append x firsts follow, called_once nodes m a links k t x g, f))

        covers : (x : ℕ) → x < k → (get_or marks x 0 ≡ 1) ⊎ In x follow
        covers x g = by x g (dec_lt 0 (times_in x follow))

    links_take : LinksName links k m marks → T (leaves_hold m nodes k links)
    links_take l = leaves_sound nodes m a links k (n.below e) fit once
      where
        fit : (i : ℕ) → i < k → LinkRises k i (get_or links i 0)
        fit = l.rise.fit

        some : (x : ℕ) → x < k → 0 < times_in x (firsts ++ follow)
        some x g = by (l.covers x g)
          where
            by : (get_or marks x 0 ≡ 1) ⊎ In x follow → 0 < times_in x (firsts ++ follow)
            by (inl p) = omega (arith, times_append x firsts follow, at x (omega (arith, g, few)), p)
            by (inr i) = omega (arith, times_append x firsts follow, in_times i)

        many : length (firsts ++ follow) ≡ k
        many = omega (arith, length-append firsts follow, leaves_many nodes m a h c, l.rise.ends)

        once : (x : ℕ) → x < k → times_in x (firsts ++ follow) ≡ 1
        once x g =
            all_once k 0 (firsts ++ follow) many (λ y _ l. some y (omega (arith, l)))
            (λ y i. (omega arith, omega (arith, called_low nodes m a links k (n.below e) fit y i))) x (omega arith) (omega (arith, g))

    -- the links decide
    pub links_decide : {b : Bool} → (b ≡ true → LinksName links k m marks) × (b ≡ false → LinksName links k m marks → ⊥) → b ≡ leaves_hold m nodes k links
    links_decide {b = true} l = passing (links_take (l.0 refl))
    links_decide {b = false} l = failing (links_refuse (l.1 refl))
