-- `segment_bound::terms::segment_bound` meets its contract: it is the definition's term at the two gaps, which are within their room (`Limits`).
use mathlib.Core.Path.{◌≡◌, ap₂, ◌∙◌}
use Prim.Native.Nat.{ℕ, ◌+◌, ◌*◌, ◌-◌, ◌≤◌}
use native.Mathlib.Nat.{mul-le-mul, div-le_self}
use native.Mathlib.Omega.{arith}
use mir.Facts.{to_z-of_z}
use Rattle.integer.specs.Words.{rounded_up}
use Rattle.segment.specs.Limits.{sum_room}
use Rattle.segment.specs.Terms.{sum_gap, bound_term}
use Rattle.segment.proofs.Limits.{sum_gap_limit, scatter_gap_limit}
use Rattle.segment_bound.proofs.terms.segment_bound.Goals as goal

scatter_gap_most : (c : goal.After-scatter_gap-h) → c.scatter_gap-h.result ≤ sum_room
scatter_gap_most c =
    omega (arith, c.scatter_gap-h.ensures, scatter_gap_limit c.args.u c.args.least_scatter c.args.greatest_scatter sum_room c.requires.5 c.requires.6)

-- what is known of the two gaps
sum_gap_is : (c : goal.After-scatter_gap-h) → c.sum_gap-g.result ≡ sum_gap c.args.t c.args.least_sum c.args.greatest_sum
sum_gap_is c =
    c.sum_gap-g.ensures ∙ rw (to_z-of_z c.ranges.t, to_z-of_z c.ranges.least_sum, to_z-of_z c.ranges.greatest_sum)

sum_gap_most : (c : goal.After-scatter_gap-h) → c.sum_gap-g.result ≤ 2 * sum_room
sum_gap_most c =
    omega (arith, sum_gap_is c, sum_gap_limit c.args.t c.args.least_sum c.args.greatest_sum (2 * sum_room) (omega arith) (omega arith))

pub bound_term-requires : goal.bound_term-requires
bound_term-requires c = (omega arith, omega arith, omega (arith, sum_gap_most c), omega (arith, scatter_gap_most c))

pub returns : goal.returns
unfolding bound_term rounded_up
returns c =
    let g : ℕ = c.sum_gap-g.result in
    let h : ℕ = c.scatter_gap-h.result in
    let hg = sum_gap_most c.before in
    let hh = scatter_gap_most c.before in record {
      value = c.bound_term.ensures ∙ ap₂ (bound_term c.args.w) (sum_gap_is c.before) c.scatter_gap-h.ensures;
      size = omega
          (arith, c.bound_term.ensures, c.requires.1, mul-le-mul hg hg, mul-le-mul hh hh, div-le_self (g * g + h * h + (c.args.w - 1)) c.args.w);
    }
