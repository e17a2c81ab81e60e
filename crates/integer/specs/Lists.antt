-- Lists, as facts: what is in a list, what each of its elements has, and numbers that rise.
use Rattle.std.specs.Prelude.{ℕ, suc, ◌≤◌, List, [], ◌∷◌}

-- a is in a list, at a place. (The kit's `List-as-Memᴰ` keeps an equation at the place; a match on `In` puts the element itself there)
pub data In {A : Type 0} (a : A) : List A → Type 0 where
  first : {rest : List A} → In a (a ∷ rest)
  later : {b : A} {rest : List A} → In a rest → In a (b ∷ rest)

-- each element has P
pub data All {A : Type 0} (P : A → Type 0) : List A → Type 0 where
  all_none : All P []
  all_more : {a : A} {rest : List A} → P a → All P rest → All P (a ∷ rest)

-- numbers that rise, the first at least k
pub data Up : ℕ → List ℕ → Type 0 where
  u_none : {k : ℕ} → Up k []
  u_more : {k a : ℕ} {l : List ℕ} → k ≤ a → Up (suc a) l → Up k (a ∷ l)
