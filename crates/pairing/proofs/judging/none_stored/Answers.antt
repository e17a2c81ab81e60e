-- `pairing::judging::none_stored` meets its contract.
use Prim.Native.Nat.{ℕ, ◌+◌}
use mathlib.Core.Path.{ap₂, ◌∙◌}
use lib.Dec.{eqb}
use Rattle.pairing.proofs.judging.none_stored.Goals as goal

pub returns : goal.returns
returns c =
    ap₂ (λ (k m : ℕ). eqb (k + m) 0) (c.wide-stored.ensures ∙ c.field.ensures) (c.wide-bench_stored.ensures ∙ c.field-2.ensures)
