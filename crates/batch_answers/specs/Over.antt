-- A list whose first places are written over.
use Rattle.std.specs.Prelude.{ℕ, zero, suc, List, [], ◌∷◌, ◌++◌, drop}

module _ {A : Type 0} (f : ℕ → A) where
  -- f 0, f 1, .., k of them
  unfoldable pub first_values : ℕ → List A
  first_values zero = []
  first_values (suc k) = first_values k ++ f k ∷ []

  -- the first k places hold these, the others stay
  unfoldable pub with_first_values : ℕ → List A → List A
  with_first_values k list = first_values k ++ drop k list
