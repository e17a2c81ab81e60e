-- Numbers that pass a test, written to the beginning of a list as they come: what is written and those still to come are all of them.
use Rattle.std.specs.Prelude.{if◌then◌else◌}
use Prim.Native.Nat.{ℕ, suc, ◌+◌, ◌-◌, ◌≤◌, ◌<◌}
use mathlib.Core.Path.{◌≡◌, refl, sym, ◌∙◌, ap, subst}
use mathlib.Core.Bool.{Bool, true, false}
use mathlib.Core.List.{List, [], ◌∷◌, ◌++◌, append_assoc, append-nil}
use native.Mathlib.Omega.{arith}
use native.Mathlib.Numerals.{add-one}
use lib.ListN.{length, take, drop, set, length-set}
use lib.Seq.{drop-set-lt, take-suc-set}
use Rattle.integer.specs.Words.{counting, those}
use Rattle.integer.specs.Written.{Noted, Written}
use Rattle.integer.proofs.Lists.{drop_more}

module _ (passes : ℕ → Bool) (count : ℕ) where
  -- those that pass, and those of them from j on
  abbrev passing : List ℕ
  passing = those passes (counting count 0)

  abbrev still : ℕ → List ℕ
  still j = those passes (counting (count - j) j)

  still_next : (j : ℕ) → j < count → still j ≡ (if passes j then j ∷ still (suc j) else still (suc j))
  unfolding counting those
  still_next j h = let e : count - j ≡ suc (count - suc j) = omega arith in rw e

  -- those before j are written
  pub record Writing (list₀ list : List ℕ) (out j : ℕ) : Type 0 where
    pub inside : j ≤ count
    pub few : out ≤ j
    pub all : take out list ++ still j ≡ passing
    pub as_many : out + length (still j) ≡ length passing
    pub size : length list ≡ length list₀
    pub rest : drop out list ≡ drop out list₀

  pub writing_start : (list : List ℕ) → Writing list list 0 0
  writing_start list =
      let z : count - 0 ≡ count = omega arith in
      let e : still 0 ≡ passing = ap (λ (c : ℕ). those passes (counting c 0)) z in
      record { inside = omega arith; few = omega arith; all = e; as_many = omega (arith, ap length e); size = refl; rest = refl }

  module _ (list₀ list : List ℕ) (out j : ℕ) (m : Writing list₀ list out j) where
    -- all are written
    pub writing_end : count ≤ j → (out ≡ length passing) × Written passing list₀ list
    unfolding counting those
    writing_end h =
        let e : count - j ≡ 0 = omega arith in
        let none : still j ≡ [] = rw e in
        let all : out ≡ length passing = omega (arith, m.as_many, ap length none) in (
          all,
          record {
            are =
                subst (λ (k : ℕ). take k list ≡ passing) all
                (sym (append-nil (take out list)) ∙ ap (λ (l : List ℕ). take out list ++ l) (sym none) ∙ m.all);
            rest = subst (λ (k : ℕ). drop k list ≡ drop k list₀) all m.rest;
          },
        )

    module _ (h : j < count) (room : length passing ≤ length list₀) where
      pub note_room : passes j ≡ true → out < length list
      note_room e =
          let s : still j ≡ j ∷ still (suc j) = still_next j h ∙ (rw e) in
          omega (arith, m.as_many, ap length s, m.size)

      pub writing_next : (b : Bool) → passes j ≡ b → (out' : ℕ) (list' : List ℕ) → Noted b j out out' list list'
          → Writing list₀ list' out' (j + 1)
      writing_next true e out' list' (o, w) =
          let s : still j ≡ j ∷ still (suc j) = still_next j h ∙ (rw e) in
          let t : take (suc out) (set list out j) ≡ take out list ++ (j ∷ []) = take-suc-set list out j (note_room e) in
          rw (o, w, add-one out, add-one j) (record {
            inside = omega arith;
            few = omega (arith, m.few);
            all =
                ap (λ (l : List ℕ). l ++ still (suc j)) t ∙ append_assoc (take out list) (j ∷ []) (still (suc j))
                ∙ ap (λ (l : List ℕ). take out list ++ l) (sym s) ∙ m.all;
            as_many = omega (arith, m.as_many, ap length s);
            size = length-set list out j ∙ m.size;
            rest = drop-set-lt (suc out) list out j (omega arith) ∙ drop_more (suc out) out list list₀ (omega arith) m.rest;
          })
      writing_next false e out' list' (o, w) =
          let s : still j ≡ still (suc j) = still_next j h ∙ (rw e) in
          rw (o, w, add-one j) (record {
            inside = omega arith;
            few = omega (arith, m.few);
            all = ap (λ (l : List ℕ). take out list ++ l) (sym s) ∙ m.all;
            as_many = omega (arith, m.as_many, ap length s);
            size = m.size;
            rest = m.rest;
          })
