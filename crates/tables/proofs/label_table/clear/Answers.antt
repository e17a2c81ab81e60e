-- `tables::label_table::clear` meets its contract: a zero label's place is 0.
use mathlib.Core.Path.{◌≡◌, ap, ◌∙◌}
use Prim.Native.Nat.{ℕ, ◌+◌, ◌-◌}
use native.Mathlib.Omega.{arith}
use lib.ListN.{length-drop, replicate, drop}
use lib.Seq.{length-take-le}
use Rattle.tables.proofs.Labels.{zeros_over}
use Rattle.tables.proofs.label_table.clear.Goals as goal

pub returns : goal.returns
returns c =
    let labels = c.args.labels.now in
    let n : c.args.at + c.args.count - c.args.at ≡ c.args.count = omega arith in
    let whole = length-take-le c.args.count (drop c.args.at labels) (omega (arith, length-drop c.args.at labels)) in
    rw n
    (zeros_over labels c.fill.new.self c.args.at c.args.count ((rw n at (c.fill.ensures.after (λ y h. h))) ∙ ap (λ (k : ℕ). replicate k 0) whole))
