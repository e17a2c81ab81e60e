-- Numbers written one after another from a place on: those before have their places, the rest are to come, other places are as they were.
use mathlib.Core.Path.{◌≡◌, refl, sym, ap, ◌∙◌}
use mathlib.Core.Logic.{◌⊎◌, inl, inr}
use mathlib.Core.List.{List, [], ◌∷◌}
use Prim.Native.Nat.{ℕ, ◌+◌, ◌-◌, ◌≤◌, ◌<◌}
use native.Mathlib.Omega.{arith}
use lib.ListN.{length, get_or, set, drop, length-set}
use lib.Seq.{get_or-set_same, get_or-set_other}
use Rattle.integer.proofs.Lists.{same_or_not}
use Rattle.checking.specs.Laid.{PutFrom}
use Rattle.figures_below.proofs.Steps.{NextIs, next_is}

pub record Putting (before now : List ℕ) (at : ℕ) (numbers : List ℕ) (place : ℕ) (rest : List ℕ) : Type 0 where
  pub size : length now ≡ length before
  pub from : at ≤ place
  pub to : place + length rest ≡ at + length numbers
  pub left : drop (place - at) numbers ≡ rest
  pub new : (x : ℕ) → x < place - at → get_or now (at + x) 0 ≡ get_or numbers x 0
  pub old : (y : ℕ) → (y < at) ⊎ (place ≤ y) → get_or now y 0 ≡ get_or before y 0

pub put_none : (before : List ℕ) (at : ℕ) (numbers : List ℕ) → Putting before before at numbers at numbers
put_none before at numbers =
    let z : at - at ≡ 0 = omega arith in
    record {
      size = refl;
      from = omega arith;
      to = refl;
      left = rw z;
      new = λ x h. absurd (omega arith);
      old = λ y h. refl;
    }

module _ {before now : List ℕ} {at : ℕ} {numbers : List ℕ} {place t : ℕ} {rest : List ℕ} where
  pub put_more : Putting before now at numbers place (t ∷ rest) → place < length now
      → Putting before (set now place t) at numbers (place + 1) rest
  put_more p room =
      let next : NextIs numbers (place - at) t rest = next_is numbers (place - at) t rest p.left in
      let step : place + 1 - at ≡ place - at + 1 = omega (arith, p.from) in
      record {
        size = length-set now place t ∙ p.size;
        from = omega (arith, p.from);
        to = omega (arith, p.to);
        left = rw step next.on;
        new = λ x h. at_new x h next (same_or_not (at + x) place);
        old = λ y h. get_or-set_other now place y t 0 (λ e. apart y h e) ∙ p.old y (earlier y h);
      }
    where
      apart : (y : ℕ) → (y < at) ⊎ (place + 1 ≤ y) → y ≡ place → ⊥
      apart y (inl h) e = omega (arith, p.from)
      apart y (inr h) e = omega arith

      earlier : (y : ℕ) → (y < at) ⊎ (place + 1 ≤ y) → (y < at) ⊎ (place ≤ y)
      earlier y (inl h) = inl h
      earlier y (inr h) = inr (omega arith)

      at_new : (x : ℕ) → x < place + 1 - at → NextIs numbers (place - at) t rest → Dec (at + x ≡ place)
          → get_or (set now place t) (at + x) 0 ≡ get_or numbers x 0
      at_new x h next (yes e) =
          let d : place - at ≡ x = omega (arith, p.from) in
          ap (λ (y : ℕ). get_or (set now place t) y 0) e ∙ (get_or-set_same now place t 0 room ∙
          (sym next.is ∙ ap (λ (y : ℕ). get_or numbers y 0) d))
      at_new x h next (no f) = get_or-set_other now place (at + x) t 0 f ∙ p.new x (omega (arith, p.from))

pub put_all : {before now : List ℕ} {at : ℕ} {numbers : List ℕ} {place : ℕ} → Putting before now at numbers place []
    → PutFrom before now at numbers
put_all {at = at} {numbers = numbers} {place = place} p = record {
  size = p.size;
  new = λ x h. p.new x (omega (arith, p.to, p.from));
  old = λ y h. p.old y (beyond y h);
}
  where
    beyond : (y : ℕ) → (y < at) ⊎ (at + length numbers ≤ y) → (y < at) ⊎ (place ≤ y)
    beyond y (inl h) = inl h
    beyond y (inr h) = inr (omega (arith, p.to))
