-- `nodes_fit::kept::ends_kept` meets its contract: the numbers of ends are those of the records.
use mathlib.Core.Path.{◌≡◌, ◌∙◌}
use Rattle.tables.specs.View.{segments_in}
use Rattle.records_fit.specs.Fits.{segments_in_from, ends_in}
use Rattle.nodes_fit.proofs.kept.ends_kept.Goals as goal

pub returns : goal.returns
unfolding segments_in
returns c =
    let a = c.args in
    let e : c.ends_in.result ≡ ends_in (segments_in_from a.child.now c.small_at-count.result 0)
    (segments_in_from a.parent.now c.small_at-many.result 0) = c.ends_in.ensures in
    e ∙ rw (c.small_at-count.ensures, c.small_at-many.ensures)
