-- `nodes_fit::nodes::twins_fit` meets its contract: the parts that are lent are the three records.
use mathlib.Core.Path.{◌≡◌, ap, ◌∙◌}
use mathlib.Core.List.{List}
use Prim.Native.Nat.{ℕ, ◌+◌, ◌*◌, ◌≤◌}
use lib.IntN.{ℤ}
use lib.ListN.{length}
use Rattle.tables.specs.Layout.{record_places}
use Rattle.tables.specs.Tables.{record_of}
use Rattle.tables.proofs.Frame.{record_length}
use Rattle.nodes_fit.proofs.nodes.twins_fit.Goals as goal

-- a part that is node j's record is as long as one
long : (nodes : List ℤ) (j : ℕ) {l : List ℤ} → l ≡ record_of nodes j → j * record_places + record_places ≤ length nodes → length l ≡ record_places
long nodes j e h = ap length e ∙ record_length nodes j h

pub twins_fit-requires : goal.twins_fit-requires
twins_fit-requires c =
    let nodes = c.args.nodes.now in (
      long nodes c.args.left c.record_at.ensures c.requires.0,
      long nodes c.args.right c.record_at-2.ensures c.requires.2,
      long nodes c.args.parent c.record_at-3.ensures c.requires.4,
    )
