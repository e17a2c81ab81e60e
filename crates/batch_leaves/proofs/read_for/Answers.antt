-- `batch_leaves::read_for` meets its contract: the record is a list of one, which reading a leaf fills (`Bests`).
use mathlib.Core.Path.{refl}
use native.Mathlib.Omega.{arith}
use lib.ListN.{length-set}
use Rattle.segment.specs.Stored.{samples_of}
use Rattle.batch_leaves.proofs.Bests.{one_room, some_number, one_read}
use Rattle.batch_leaves.proofs.read_for.Goals as goal

pub read_leaf-requires : goal.read_leaf-requires
read_leaf-requires c =
    (c.requires.0, c.requires.1, one_room c.min-listed.result (omega (arith, c.min-listed.ensures)) _ (omega arith))

pub bounds-bests-at-4 : goal.bounds-bests-at-4
bounds-bests-at-4 c =
    simp length-set (omega (arith, c.requires.3))

pub returns : goal.returns
returns c =
    let r = c.read_leaf in
    let a = c.args in
    one_read a.bests.now a.i a.leaves c.min-listed.result _ r.new.list r.result.listed _ c.requires.3
    c.min-listed.ensures refl
    (some_number a.samples.now a.n (samples_of a.query.now) a.links.now a.count a.head) r.ensures.list.nears_are
