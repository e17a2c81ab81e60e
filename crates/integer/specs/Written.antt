-- Numbers written to the beginning of a list, one behind the other.
use Rattle.std.specs.Prelude.{ℕ, ◌+◌, ◌≡◌, Bool, true, false, List, length, take, drop, set}

-- a number, written at a place if it passes a test; the place behind what is written
abbrev pub Noted : Bool → ℕ → ℕ → ℕ → List ℕ → List ℕ → Type 0
Noted true j out out' list list' = (out' ≡ out + 1) × (list' ≡ set list out j)
Noted false j out out' list list' = (out' ≡ out) × (list' ≡ list)

-- these numbers, written to the list's beginning; its other places stay
pub record Written (numbers list list' : List ℕ) : Type 0 where
  pub are : take (length numbers) list' ≡ numbers
  pub rest : drop (length numbers) list' ≡ drop (length numbers) list
