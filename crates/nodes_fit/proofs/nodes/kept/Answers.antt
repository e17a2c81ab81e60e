-- `nodes_fit::nodes::kept` meets its contract: the parts that are lent are the two records.
use mathlib.Core.Path.{◌≡◌, sym, subst}
use mathlib.Core.List.{List}
use lib.IntN.{ℤ}
use lib.ListN.{length}
use Rattle.tables.specs.Layout.{record_places, segments_place}
use Rattle.tables.specs.View.{small_at}
use Rattle.tables.proofs.Frame.{record_length}
use Rattle.records_fit.specs.Fits.{EndsRise}
use Rattle.nodes_fit.proofs.nodes.kept.Goals as goal

pub ends_kept-requires : goal.ends_kept-requires
ends_kept-requires c =
    let nodes = c.args.nodes.now in
    let P : List ℤ → Type 0 = λ l. (length l ≡ record_places) × EndsRise l (small_at l segments_place) in
    let x = subst P (sym c.record_at.ensures) (record_length nodes c.args.child c.requires.0, c.requires.2) in
    let y = subst P (sym c.record_at-2.ensures) (record_length nodes c.args.parent c.requires.3, c.requires.5) in
    (x.0, x.1, y.0, y.1)
