-- `band_counts::nodes::node_pair` meets its contract: the numbers of edges that the record's own figures have reached, and those from above.
use mathlib.Core.Path.{◌≡◌, ap, ap₂, ◌∙◌}
use Prim.Native.Nat.{ℕ, ◌≤◌, min, max}
use native.Mathlib.Omega.{arith}
use mathlib.Core.List.{List}
use Rattle.segment.specs.Stored.{samples_of}
use Rattle.tables.specs.Tables.{record_of}
use Rattle.query.specs.Bounded.{bound_by, upper_by}
use Rattle.band_counts.specs.Reached.{edges_reached, pair_of, by_bound_in, by_upper_in}
use Rattle.band_counts.proofs.Reached.{at_most_all}
use Rattle.band_counts.proofs.nodes.node_pair.Goals as goal

module _ (c : goal.After-min) where
  abbrev s : goal.After-min
  s = c

  abbrev edges : List ℕ
  edges = s.args.edges.now

  -- what the record's own figures have reached
  by_bound_lem : c.reached-by_bound.result ≡ edges_reached edges (bound_by (samples_of s.args.query.now.trace.now) (record_of s.args.nodes.now s.args.j))
  by_bound_lem = let k = c in
      k.reached-by_bound.ensures ∙ ap (edges_reached edges) (k.own_bound.ensures.value ∙ ap (bound_by (samples_of s.args.query.now.trace.now)) k.record_at-record.ensures)

  by_upper_lem : c.reached-by_upper.result ≡ edges_reached edges (upper_by (samples_of s.args.query.now.trace.now) (record_of s.args.nodes.now s.args.j))
  by_upper_lem = c.reached-by_upper.ensures
      ∙ ap (edges_reached edges) (c.own_upper.ensures ∙ ap (upper_by (samples_of s.args.query.now.trace.now)) c.record_at-record.ensures)

  few : c.reached-by_upper.result ≤ 16
  few = omega (arith, by_upper_lem, at_most_all edges (upper_by (samples_of s.args.query.now.trace.now) (record_of s.args.nodes.now s.args.j)), s.requires.2)

  low : c.reached-by_bound.result ≤ 16
  low = omega (arith, by_bound_lem, at_most_all edges (bound_by (samples_of s.args.query.now.trace.now) (record_of s.args.nodes.now s.args.j)), s.requires.2)

pub record_at-record-requires : goal.record_at-record-requires
record_at-record-requires c = (c.requires.0, c.requires.1)

pub own_bound-requires : goal.own_bound-requires
own_bound-requires c = rw c.record_at-record.ensures c.requires.3

pub reached-by_bound-requires : goal.reached-by_bound-requires
reached-by_bound-requires c = c.requires.2

pub own_upper-requires : goal.own_upper-requires
own_upper-requires c = rw c.record_at-record.ensures c.requires.3

pub reached-by_upper-requires : goal.reached-by_upper-requires
reached-by_upper-requires c = c.requires.2

pub overflow_mul-result : goal.overflow_mul-result
overflow_mul-result c = omega (arith, c.min.ensures, few c)

pub overflow_add-result : goal.overflow_add-result
overflow_add-result c = omega (arith, c.min.ensures, few c, c.max.ensures, low c)

pub returns : goal.returns
returns c =
    ap₂ pair_of (c.max.ensures ∙ ap (λ (b : ℕ). max b (by_bound_in (s c).args.above)) (by_bound_lem c))
    (c.min.ensures ∙ ap (λ (u : ℕ). min u (by_upper_in (s c).args.above)) (by_upper_lem c))
