-- `leaf_order::keys::node_key` meets its contract: the own bound is that of node j's record.
use mathlib.Core.Path.{sym, ap, subst, ◌∙◌}
use mathlib.Core.List.{List}
use Prim.Native.Nat.{◌<◌}
use native.Mathlib.Omega.{arith}
use lib.IntN.{ℤ}
use lib.ListN.{length}
use Rattle.segment.specs.Limits.{bound_limit}
use Rattle.segment.specs.Stored.{samples_of}
use Rattle.dstree.specs.Measures.{sample_limit}
use Rattle.query.specs.Bounded.{Bounded, bound_by}
use Rattle.best_first.specs.NodeKeys.{bounds_below}
use Rattle.leaf_order.proofs.keys.node_key.Goals as goal
use Rattle.leaf_order.proofs.keys.node_key.Goals.{After-max}

-- both bounds are such as a key holds
low : (c : After-max) → c.max.result < bounds_below
unfolding sample_limit bound_limit
low c = omega (arith, c.max.ensures, c.own_bound-own.ensures.size, c.requires.2)

pub own_bound-own-requires : goal.own_bound-own-requires
own_bound-own-requires c =
    subst (λ (r : List ℤ). Bounded r (length c.args.query.now.trace.now)) (sym c.record_at-record.ensures) c.requires.3

pub overflow_mul-result : goal.overflow_mul-result
overflow_mul-result c = omega (arith, low c)

pub overflow_add-result : goal.overflow_add-result
overflow_add-result c = omega (arith, low c)

pub returns : goal.returns
returns c =
    let own = c.own_bound-own.ensures.value ∙ ap (bound_by (samples_of c.args.query.now.trace.now)) c.record_at-record.ensures in
    rw (c.max.ensures, own)
