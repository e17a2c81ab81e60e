-- `sheet::labels::label_at` meets its contract: the serial's four bytes count 65,536 times.
use native.Mathlib.Omega.{arith}
use Rattle.sheet.proofs.LabelsCoded.{six_is}
use Rattle.sheet.proofs.labels.label_at.Goals as goal

pub returns : goal.returns
returns c =
    let low = c.two_bytes.ensures in
    let high = c.four_bytes.ensures in
    let e = six_is c.args.bytes.now c.args.place c.requires in
    (omega (arith, e, low.0, high.0), omega (arith, low.1, high.1))
