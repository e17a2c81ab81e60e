-- `insertion::way::is_kind` meets its contract: a kind is its number, and what is no kind has none of their numbers.
use mathlib.Core.Path.{◌≡◌, refl, sym}
use mathlib.Core.Bool.{false}
use Prim.Native.Nat.{ℕ, ◌<◌}
use native.Mathlib.Omega.{arith}
use lib.Dec.{eqb}
use borrow.Author.Tests.{ne_eqb}
use Rattle.std.proofs.Common.{Option, None, Some}
use Rattle.std.specs.Prelude.{MatchOption}
use Rattle.std.specs.Option.{option_eq}
use Rattle.tables.specs.declared.kinds.Kind.{Kind}
use Rattle.tables.specs.declared.kinds.Kind.TheVariants as k
use Rattle.tables.specs.contracts.kinds.KindPartialEq.TheImpl as equal
use Rattle.tables.specs.Kinds.{number_of}
use Rattle.insertion.proofs.way.is_kind.Goals as goal

-- the kinds have numbers of their own
numbered : (one other : Kind) → option_eq (equal.eq-value).it (Some one) (Some other) ≡ eqb (number_of one) (number_of other)
numbered k.Leaf k.Leaf = refl
numbered k.Leaf k.BySum = refl
numbered k.Leaf k.ByScatter = refl
numbered k.BySum k.Leaf = refl
numbered k.BySum k.BySum = refl
numbered k.BySum k.ByScatter = refl
numbered k.ByScatter k.Leaf = refl
numbered k.ByScatter k.BySum = refl
numbered k.ByScatter k.ByScatter = refl

none_of : (other : Kind) (n : ℕ) → 2 < n → false ≡ eqb n (number_of other)
none_of k.Leaf n h = sym (ne_eqb n 0 (λ e. omega arith))
none_of k.BySum n h = sym (ne_eqb n 1 (λ e. omega arith))
none_of k.ByScatter n h = sym (ne_eqb n 2 (λ e. omega arith))

told : (o : Option Kind) (other : Kind) (n : ℕ) → MatchOption o (2 < n) (λ kind. n ≡ number_of kind)
    → option_eq (equal.eq-value).it o (Some other) ≡ eqb n (number_of other)
told None other n h = none_of other n h
told (Some one) other n h = rw h (numbered one other)

pub returns : goal.returns
returns c = rw c.eq.ensures (told c.kind_at.result c.args.kind _ c.kind_at.ensures)
