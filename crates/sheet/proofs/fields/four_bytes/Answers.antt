-- `sheet::fields::four_bytes` meets its contract: the second two bytes count 65,536 times.
use native.Mathlib.Omega.{arith}
use Rattle.sheet.proofs.Numbers.{four_is}
use Rattle.sheet.proofs.fields.four_bytes.Goals as goal

pub returns : goal.returns
returns c =
    let e = four_is c.args.bytes.now c.args.place c.requires in
    (omega (arith, e), omega arith)
