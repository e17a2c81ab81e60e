-- `insertion::heads::write_leaf_head` meets its contract: seven stores (`Plain`).
use native.Mathlib.Omega.{arith}
use lib.ListN.{length-set}
use Rattle.insertion.proofs.Plain.{plain, head_stored}
use Rattle.insertion.proofs.heads.write_leaf_head.Goals as goal

pub slice_set_of-record-3 : goal.slice_set_of-record-3
slice_set_of-record-3 c = simp length-set (omega arith)

pub slice_set_of-record-4 : goal.slice_set_of-record-4
slice_set_of-record-4 c = simp length-set (omega arith)

pub returns : goal.returns
returns c =
    let a = c.args in
    rw (plain {n = a.segments} (omega arith), plain {n = a.first} (omega arith)) (head_stored a.«record».now (omega arith) _ _ _ _ _ _ _)
