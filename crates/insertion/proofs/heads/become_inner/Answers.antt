-- `insertion::heads::become_inner` meets its contract: the part is node j's record, of which six places are stored and place 1 stays
-- (`Plain`).
use mathlib.Core.Path.{◌≡◌, ap, ◌∙◌}
use mathlib.Core.List.{List}
use Prim.Native.Nat.{ℕ, ◌+◌, ◌*◌, ◌-◌, ◌≤◌}
use native.Mathlib.Omega.{arith}
use lib.IntN.{ℤ}
use lib.ListN.{length, length-set, take, drop}
use mir.Syntax.{w64}
use mir.Facts.{to_z-of_z}
use borrow.Author.Rules.{sfits_of}
use Rattle.integer.proofs.Width.{read}
use Rattle.tables.specs.Layout.{record_places}
use Rattle.tables.specs.Tables.{record_of}
use Rattle.tables.specs.Runs.{figure_by}
use Rattle.tables.proofs.Frame.{part_is, put_is, record_length}
use Rattle.insertion_memory.specs.Records.{inner_kind, inner_record}
use Rattle.insertion.proofs.Plain.{plain, head_kept}
use Rattle.insertion.proofs.heads.become_inner.Goals as goal

-- the part that is lent
module _ (nodes : List ℤ) (j a e : ℕ) (starts : a ≡ j * record_places) (ends : e ≡ j * record_places + record_places) where
  abbrev part : List ℤ
  part = take (e - a) (drop a nodes)

  is : part ≡ record_of nodes j
  is = part_is nodes j a e starts ends

  long : j * record_places + record_places ≤ length nodes → length part ≡ record_places
  long h = ap length is ∙ record_length nodes j h

pub bounds-record-2 : goal.bounds-record-2
bounds-record-2 c = simp length-set (omega (arith, long c.args.nodes.now c.args.j c.record_start-a.result c.record_end-e.result c.record_start-a.ensures c.record_end-e.ensures c.requires.0))

pub bounds-record-3 : goal.bounds-record-3
bounds-record-3 c = simp length-set (omega (arith, long c.args.nodes.now c.args.j c.record_start-a.result c.record_end-e.result c.record_start-a.ensures c.record_end-e.ensures c.requires.0))

pub bounds-record-4 : goal.bounds-record-4
bounds-record-4 c = simp length-set (omega (arith, long c.args.nodes.now c.args.j c.record_start-a.result c.record_end-e.result c.record_start-a.ensures c.record_end-e.ensures c.requires.0))

pub bounds-record-5 : goal.bounds-record-5
bounds-record-5 c = simp length-set (omega (arith, long c.args.nodes.now c.args.j c.record_start-a.result c.record_end-e.result c.record_start-a.ensures c.record_end-e.ensures c.requires.0))

pub bounds-record-6 : goal.bounds-record-6
bounds-record-6 c = simp length-set (omega (arith, long c.args.nodes.now c.args.j c.record_start-a.result c.record_end-e.result c.record_start-a.ensures c.record_end-e.ensures c.requires.0))

pub returns : goal.returns
unfolding inner_record
returns c =
    let g = c.args in
    let kind : read w64 c.kind_of.result ≡ inner_kind (figure_by g.by_scatter) =
    to_z-of_z (sfits_of {w = w64} {z = c.kind_of.result} c.kind_of.type_inv) ∙ c.kind_of.ensures in
    rw (
      put_is g.nodes.now g.j c.record_start-a.result c.record_end-e.result c.record_start-a.ensures c.record_end-e.ensures,
      kind,
      plain {n = g.left} (omega arith),
      plain {n = g.right} (omega arith),
      plain {n = g.first} (omega arith),
      plain {n = g.last} (omega arith),
      to_z-of_z {w = w64} c.ranges.threshold,
      head_kept (part c.args.nodes.now c.args.j c.record_start-a.result c.record_end-e.result c.record_start-a.ensures c.record_end-e.ensures)
          (omega (arith, long c.args.nodes.now c.args.j c.record_start-a.result c.record_end-e.result c.record_start-a.ensures c.record_end-e.ensures c.requires.0)),
      is c.args.nodes.now c.args.j c.record_start-a.result c.record_end-e.result c.record_start-a.ensures c.record_end-e.ensures,
    )
