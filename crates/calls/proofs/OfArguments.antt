-- Refusals for what a call is given, and not for what the tables hold.
use Rattle.std.specs.Prelude.{if◌then◌else◌}
use mathlib.Core.Bool.{Bool, true, false, not, ◌&&◌}
use mathlib.Core.Option.{Option, none, some}
use mathlib.Core.List.{List, [], ◌∷◌}
use lib.Dec.{T, eqb}
use Rattle.integer.specs.Words.{every}
use Rattle.integer.proofs.Tests.{passed}
use Rattle.dstree.specs.Refusals.{Refusal, spoiled, loose_record, number_of, Condition, first_of}

-- a refusal passes a test, if there is one
unfoldable pub if_any : (Refusal → Bool) → Option Refusal → Bool
if_any passes none = true
if_any passes (some r) = passes r

-- where each condition's refusal passes, the first that holds does
pub first_any : (passes : Refusal → Bool) (l : List Condition) → T (every (λ c. passes c.refusal) l) → T (if_any passes (first_of l))
unfolding first_of every if_any
first_any passes [] t = tt
first_any passes (c ∷ l) t =
    let p = passed (passes c.refusal) (every (λ c. passes c.refusal) l ∷ []) t in by c.holds p.0 (first_any passes l p.1)
  where
    by : (h : Bool) → T (passes c.refusal) → T (if_any passes (first_of l)) → T (if_any passes (if h then some c.refusal else first_of l))
    by true p q = p
    by false p q = q

-- a refusal for what a call is given, and not for what the tables hold: neither 3 nor 13
unfoldable pub of_arguments : Refusal → Bool
unfolding number_of
of_arguments r = not (eqb (number_of r) 3) && not (eqb (number_of r) 13)

pub spoiled_is_not : T (of_arguments spoiled) → ⊥
unfolding of_arguments number_of
spoiled_is_not t = t

pub loose_is_not : T (of_arguments loose_record) → ⊥
unfolding of_arguments number_of
loose_is_not t = t

abbrev pub other : Condition → Bool
other c = of_arguments c.refusal

pub first_other : (l : List Condition) → T (every other l) → T (if_any of_arguments (first_of l))
first_other = first_any of_arguments
