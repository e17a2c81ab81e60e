-- `records_fit::records::end_at` meets its contract: the field that it reads is the segment's first.
use mathlib.Core.Path.{◌≡◌, sym, ap, subst, ◌∙◌}
use Prim.Native.Nat.{ℕ, ◌≤◌}
use native.Mathlib.Omega.{arith}
use mir.Syntax.{w64}
use mir.Val.{to_z, of_z}
use mir.ValLaws.{to_z-of_z}
use borrow.Author.Rules.{sfits_of}
use Rattle.tables.specs.View.{small_of, segment_in}
use Rattle.records_fit.proofs.records.end_at.Goals as goal

-- the field, as it is handed on
field : (c : goal.After-value_at) → small_of (to_z w64 (of_z w64 c.value_at.result)) ≡ (segment_in c.args.places.now c.args.i).end
unfolding segment_in
field c = ap small_of (to_z-of_z w64 c.value_at.result (sfits_of {w = w64} {z = c.value_at.result} c.value_at.type_inv) ∙ c.value_at.ensures)

pub value_at-requires : goal.value_at-requires
value_at-requires c = (c.requires.0, omega arith)

pub known-requires : goal.known-requires
known-requires c = subst (λ (x : ℕ). x ≤ 65535) (sym (field c)) (omega (arith, c.requires.2))

pub returns : goal.returns
returns c = c.known.ensures ∙ field c.before
