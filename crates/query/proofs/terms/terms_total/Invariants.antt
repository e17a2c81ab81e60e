-- `query::terms::terms_total` meets its contract: the total, and the terms of the segments that are left, make the whole. Sixteen terms fit
-- 64 bits.
use mathlib.Core.Path.{◌≡◌}
use Prim.Native.Nat.{◌+◌, ◌*◌, ◌≤◌}
use lib.ListN.{length}
use Rattle.segment.specs.Limits.{term_most}
use Rattle.segment.specs.Stored.{samples_of}
use Rattle.dstree.specs.Node.{total_over}
use Rattle.tables.specs.View.{segments_in}
use Rattle.query.proofs.Own.{segments_after, Left}
use Rattle.query.proofs.terms.terms_total.Given as goal

abbrev pub invariant-loop-i : goal.invariant-loop-i
invariant-loop-i g l =
    let term = g.T.Term.term (samples_of l.query.trace.now) in
    (1 ≤ l.first)
    × (l.total + total_over term l.first (segments_after l.«record» l.count l.i) ≡ total_over term 1 (segments_in l.«record»))
    × (l.total ≤ l.i * term_most)
    × (l.first ≤ length l.query.trace.now + 1)
    × Left l.«record» (length l.query.trace.now) l.count l.first l.i
