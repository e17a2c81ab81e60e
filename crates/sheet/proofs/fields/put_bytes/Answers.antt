-- `sheet::fields::put_bytes` meets its contract: the part that is lent is given back as the new bytes.
use mathlib.Core.Path.{sym, ◌∙◌}
use mathlib.Core.List.{append_assoc}
use Prim.Native.Nat.{◌+◌}
use native.Mathlib.Omega.{arith}
use lib.ListN.{length, take, drop}
use lib.Seq.{sets-eq}
use borrow.Rule.Slice.PartMut.{Post-is}
use Rattle.sheet.proofs.fields.put_bytes.Goals as goal

pub returns : goal.returns
returns c =
    let new = c.args.new.now in
    let at = c.args.place in
    let old = c.args.bytes.now in
    rw (Post-is at (at + length new) old (omega arith), c.copy_from_slice.ensures.after)
    (sym (sets-eq new old at c.requires ∙ append_assoc (take at old) new (drop (at + length new) old)))
