-- `pair_search::starting::start` meets its contract: without a node there is no leaf, else the first is asked for (`FirstLeaf`).
use mathlib.Core.Path.{sym, ◌∙◌, subst}
use Prim.Native.Nat.{ℕ}
use lib.ListN.{length}
use Rattle.std.specs.Prelude.{None}
use Rattle.segment.specs.Stored.{samples_of}
use Rattle.tables.specs.View.{shape_in}
use Rattle.pair_search.specs.Sides.{Asked}
use Rattle.pair_search.proofs.FirstLeaf.{nothing, no_start, start_asked}
use Rattle.pair_search.proofs.starting.start.Goals as goal

pub returns-then-capacity-eq0-clause-started : goal.returns-then-capacity-eq0-clause-started
returns-then-capacity-eq0-clause-started c =
    let a = c.args in
    no_start a.nodes.now (length a.heap.now.keys.now) (samples_of a.query.now.trace.now) a.heap.now c.requires.1
    (sym c.capacity.ensures ∙ c.if-capacity-eq0.true)

-- there is a node
pub returns-clause-started : goal.returns-clause-started
returns-clause-started c =
    let a = c.args in
    let nodes = a.nodes.now in
    let query = samples_of a.query.now.trace.now in
    let m = length a.heap.now.keys.now in
    let first = c.begin.new.heap in
    let left = c.ask.new.heap in
    start_asked (shape_in nodes m) query c.ask.result first left c.begin.ensures.one c.begin.ensures.begun
    (subst (λ (n : ℕ). Asked (shape_in nodes n) query None nothing c.ask.result first left) c.begin.ensures.room.long c.ask.ensures.asked)
