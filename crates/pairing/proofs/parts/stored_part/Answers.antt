-- `pairing::parts::stored_part` meets its contract: a table holds trace t where its length by n is above t.
use Prim.Native.Nat.{suc, ◌*◌, ◌≤◌}
use native.Mathlib.Nat.{add-sub_cancel_left}
use native.Mathlib.Omega.{arith}
use lib.ListN.{length}
use Rattle.pairing.specs.Parts.{trace_part, lent_part}
use Rattle.pairing.proofs.Held.{above, beyond, held, not_held, none_held}
use Rattle.pairing.proofs.parts.stored_part.Goals as goal

-- where the tests leave off, the table holds the trace
within : (c : goal.Else-samples-n) → suc c.args.trace * c.args.n ≤ length c.args.samples.now
within c = above _ _ _ (omega arith) c.if-samples-n.false

pub returns-then-n-eq0 : goal.returns-then-n-eq0
returns-then-n-eq0 c = none_held (lent_part c.args.samples) _ _ c.if-n-eq0.true

pub returns-then-samples-n : goal.returns-then-samples-n
returns-then-samples-n c = not_held (lent_part c.args.samples) _ _ (beyond _ _ _ (omega arith) c.if-samples-n.true)

pub overflow_mul-from : goal.overflow_mul-from
overflow_mul-from c = record { fits = omega (arith, within c) }

pub overflow_add-result : goal.overflow_add-result
overflow_add-result c = record { fits = omega (arith, within c) }

pub offset_bounds-samples-from : goal.offset_bounds-samples-from
offset_bounds-samples-from c = record { fits = omega (arith, within c) }

pub slice_bounds-result-end-2 : goal.slice_bounds-result-end-2
slice_bounds-result-end-2 c = omega (arith, within c)

pub returns : goal.returns
unfolding trace_part
returns c = rw add-sub_cancel_left (held (lent_part c.args.samples) _ _ (within c.before))
