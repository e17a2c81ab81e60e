-- `tables::label_table::place_of` meets its contract: code and serial fit their bits by their types.
use Rattle.dstree.specs.Labels.{label, label_place}
use Rattle.dstree.proofs.SheetLabels.{at_place}
use Rattle.tables.proofs.label_table.place_of.Goals as goal

pub returns : goal.returns
unfolding label_place
returns c =
    rw (c.from.ensures, c.from-2.ensures)
    (at_place (label c.args.code c.args.serial) (record { code_fits = c.ranges.code.fits; serial_fits = c.ranges.serial.fits }))
