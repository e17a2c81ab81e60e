-- The sides of a test, as marks of a leaf's traces.
use Rattle.std.specs.Prelude.{ℕ, Bool, true, false, set}
use mathlib.Core.List.{List, foldl}

-- 1 left, 2 right
abbrev pub side_mark : Bool → ℕ
side_mark true = 1
side_mark false = 2

-- each number marked by its side, in order
abbrev pub marks_by : (ℕ → Bool) → List ℕ → List ℕ → List ℕ
marks_by sends_left marks numbers = foldl (λ (m : List ℕ) (t : ℕ). set m t (side_mark (sends_left t))) marks numbers
