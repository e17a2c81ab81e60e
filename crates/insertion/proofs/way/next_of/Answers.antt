-- `insertion::way::next_of` meets its contract: by the kind, none at a leaf, else the child on the side that the test says (`Down`).
use Rattle.std.specs.Prelude.{if◌then◌else◌}
use mathlib.Core.Path.{◌≡◌, sym, ◌∙◌}
use mathlib.Core.Option.{some}
use native.Mathlib.Omega.{arith}
use borrow.Author.Tests.{eqb-true, eqb-false}
use Rattle.segment.specs.Stored.{samples_of}
use Rattle.tables.specs.Layout.{kind_place}
use Rattle.tables.specs.View.{small_at}
use Rattle.insertion.specs.Way.{next_in}
use Rattle.insertion.proofs.Down.{child_leaf, child_inner}
use Rattle.insertion.proofs.way.next_of.Goals as goal
use Rattle.insertion.proofs.way.next_of.Goals.{After-goes_left-goes}

pub returns-then-is_kind : goal.returns-then-is_kind
returns-then-is_kind c =
    (child_leaf c.args.«record».now (samples_of c.args.trace.now.trace.now) (small_at c.args.«record».now kind_place) (eqb-true _ _ (sym c.is_kind.ensures ∙ c.if-is_kind.true)))

pub goes_left-goes-requires : goal.goes_left-goes-requires
goes_left-goes-requires c =
    let inner = eqb-false _ _ (sym c.is_kind.ensures ∙ c.if-is_kind.false) in
    c.requires.2 (omega (arith, inner))

-- the child on the side that the test says
side : (c : After-goes_left-goes) →
    let r = c.args.«record».now in
    next_in r (samples_of c.args.trace.now.trace.now) ≡ some (if c.goes_left-goes.result then c.small_at-left.result else c.small_at-right.result)
side c =
    let r = c.args.«record».now in
    let x = samples_of c.args.trace.now.trace.now in
    rw (c.goes_left-goes.ensures, c.small_at-left.ensures, c.small_at-right.ensures) (child_inner r x (small_at r kind_place) c.requires.1 (eqb-false _ _ (sym c.is_kind.ensures ∙ c.if-is_kind.false)))

pub returns-then-goes : goal.returns-then-goes
returns-then-goes c = rw c.if-goes.true at (side (goal.at.returns-then-goes c).After-goes_left-goes)

pub returns-else-goes : goal.returns-else-goes
returns-else-goes c = rw c.if-goes.false at (side (goal.at.returns-else-goes c).After-goes_left-goes)
