-- Numbers in a row, and the values of a function on them: what stands at a place of such a list, and when a list is one.
use Prim.Native.Nat.{ℕ, zero, suc, ◌+◌, ◌<◌}
use mathlib.Core.Path.{◌≡◌, refl, ◌∙◌, ap}
use mathlib.Core.List.{List, [], ◌∷◌, ◌++◌, map}
use native.Mathlib.Omega.{arith}
use lib.ListN.{length, get_or, length-map}
use lib.Seq.{ext_get_or}
use Rattle.integer.specs.Words.{counting}
use Rattle.integer.proofs.Times.{counting_length}

-- one more number
pub counting_more : (m a : ℕ) → counting (suc m) a ≡ counting m a ++ ((a + m) ∷ [])
unfolding counting
counting_more zero a = let e : a ≡ a + 0 = omega arith in ap (λ (k : ℕ). k ∷ []) e
counting_more (suc m) a = let e : suc a + m ≡ a + suc m = omega arith in ap (λ (l : List ℕ). a ∷ l) (counting_more m (suc a) ∙ ap (λ (k : ℕ). counting m (suc a) ++ (k ∷ [])) e)

pub map_append : {A B : Type 0} (f : A → B) (a b : List A) → map f (a ++ b) ≡ map f a ++ map f b
map_append f [] b = refl
map_append f (x ∷ a) b = ap (λ (l : List _). f x ∷ l) (map_append f a b)

-- what stands at a place of the values f j of the first m numbers
pub get_or_table : {A : Type 0} (f : ℕ → A) (m a i : ℕ) (d : A) → i < m → get_or (map f (counting m a)) i d ≡ f (a + i)
unfolding counting
get_or_table f zero a i d h = absurd (omega arith)
get_or_table f (suc m) a zero d h = let e : a ≡ a + 0 = omega arith in ap f e
get_or_table f (suc m) a (suc i) d h = let e : suc a + i ≡ a + suc i = omega arith in get_or_table f m (suc a) i d (omega arith) ∙ ap f e

-- the values f j of the numbers below a list's length are the list, if they are its elements
pub table_is : {A : Type 0} (f : ℕ → A) (d : A) (l : List A) (m : ℕ) → m ≡ length l → ((j : ℕ) → j < length l → f j ≡ get_or l j d) → map f (counting m 0) ≡ l
table_is f d l m e h =
    ext_get_or d (map f (counting m 0)) l (length-map (counting m 0) f ∙ counting_length m 0 ∙ e)
    (λ i q. let b : i < m = omega (arith, q, length-map (counting m 0) f, counting_length m 0) in
    get_or_table f m 0 i d b ∙ ap f (let z : 0 + i ≡ i = omega arith in z) ∙ h i (omega arith))
