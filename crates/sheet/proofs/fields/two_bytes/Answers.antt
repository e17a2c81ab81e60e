-- `sheet::fields::two_bytes` meets its contract: the second byte counts 256 times.
use native.Mathlib.Omega.{arith}
use Rattle.sheet.proofs.Numbers.{number_is}
use Rattle.sheet.proofs.fields.two_bytes.Goals as goal

pub returns : goal.returns
returns c =
    let e = number_is c.args.bytes.now c.args.place c.requires in
    (omega (arith, e), omega arith)
