-- Several tests joined by `&&` pass exactly if each of them does. The tests are listed once, and their facts come and go as one tuple:
--
--     let p = passed a (b ∷ c ∷ []) t in ..        with t : T (a && b && c), p.0 : T a, p.1.0 : T b, p.1.1 : T c
--     passes a (b ∷ c ∷ []) (x, (y, z))            a proof of T (a && b && c)
use mathlib.Core.Bool.{Bool, true, false, not, ◌&&◌, ◌||◌}
use mathlib.Core.List.{List, [], ◌∷◌}
use Prim.Native.Nat.{ℕ}
use mathlib.Core.Path.{◌≡◌, refl, sym, subst, ◌∙◌}
use lib.Dec.{T, eqb, eqb_refl}

-- a && b && c && ..
abbrev pub and_all : Bool → List Bool → Bool
and_all a [] = a
and_all a (b ∷ more) = and_all (a && b) more

-- T a × (T b × (T c × ..))
abbrev pub Each : Bool → List Bool → Type 0
Each a [] = T a
Each a (b ∷ more) = T a × Each b more

passed_and : (a b : Bool) (more : List Bool) → Each (a && b) more → T a × Each b more
passed_and true b [] t = (tt, t)
passed_and false b [] t = absurd t
passed_and true b (c ∷ more) t = (tt, t)
passed_and false b (c ∷ more) t = absurd t.0

passes_and : (a b : Bool) (more : List Bool) → T a → Each b more → Each (a && b) more
passes_and true b more t u = u
passes_and false b more t u = absurd t

pub passed : (a : Bool) (more : List Bool) → T (and_all a more) → Each a more
passed a [] t = t
passed a (b ∷ more) t = passed_and a b more (passed (a && b) more t)

pub passes : (a : Bool) (more : List Bool) → Each a more → T (and_all a more)
passes a [] t = t
passes a (b ∷ more) t = passes (a && b) more (passes_and a b more t.0 t.1)

-- two numbers are the same
pub eq→eqb : {a b : ℕ} → a ≡ b → T (eqb a b)
eq→eqb {a} e = subst (λ (x : ℕ). T (eqb a x)) e (eqb_refl a)

-- a test's answer as a fact, and a fact as the answer. (Of `ltb`, `leb` and `eqb`: `borrow.Author.Tests`)
pub is_true : {b : Bool} → b ≡ true → T b
is_true e = subst T (sym e) tt

pub is_false : {b : Bool} → b ≡ false → T (not b)
is_false e = subst (λ b. T (not b)) (sym e) tt

pub test_true : (b : Bool) → T b → b ≡ true
test_true true t = refl
test_true false t = absurd t

pub test_false : (b : Bool) → (T b → ⊥) → b ≡ false
test_false true f = absurd (f tt)
test_false false f = refl

-- no test both passes and fails
pub clash : {X : Type 0} → true ≡ false → X
clash e = absurd (subst T e tt)

pub never_both : {X : Type 0} {b : Bool} → b ≡ true → b ≡ false → X
never_both e f = clash (sym e ∙ f)

-- two tests are the same if each passes what the other passes
pub same_test : {a b : Bool} → (T a → T b) → (T b → T a) → a ≡ b
same_test {a = true} {b = true} f g = refl
same_test {a = true} {b = false} f g = absurd (f tt)
same_test {a = false} {b = true} f g = absurd (g tt)
same_test {a = false} {b = false} f g = refl

-- a test beside one whose answer is known
pub and_true : (b : Bool) → b && true ≡ b
and_true true = refl
and_true false = refl

pub and_false : (b : Bool) → b && false ≡ false
and_false true = refl
and_false false = refl

-- neither of two tests passes
pub neither : (a b : Bool) → a || b ≡ false → (a ≡ false) × (b ≡ false)
neither true b e = clash e
neither false b e = (refl, e)
