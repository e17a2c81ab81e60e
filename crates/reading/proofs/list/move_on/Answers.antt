-- `reading::list::move_on` meets its contract: the second place is read behind the first store, which is not there.
use Prim.Native.Nat.{◌+◌, ◌*◌}
use native.Mathlib.Omega.{arith}
use mathlib.Core.Path.{◌≡◌}
use lib.ListN.{get_or, set, length-set}
use lib.Seq.{get_or-set_other}
use Rattle.reading.proofs.list.move_on.Goals as goal

pub bounds-list-at-3 : goal.bounds-list-at-3
bounds-list-at-3 c = simp length-set (omega (arith, c.requires))

pub bounds-list-at-4 : goal.bounds-list-at-4
bounds-list-at-4 c = simp length-set (omega (arith, c.requires))

pub returns : goal.returns
returns c =
    let a = c.args in
    let l = a.list.now in
    let at = 2 * a.i in
    let e : get_or (set l (at + 2) (get_or l at 0)) (at + 1) 0 ≡ get_or l (at + 1) 0 =
    get_or-set_other l (at + 2) (at + 1) (get_or l at 0) 0 (λ q. omega arith) in
    rw e
