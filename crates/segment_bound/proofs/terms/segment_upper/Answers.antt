-- `segment_bound::terms::segment_upper` meets its contract: it is the definition's term at G and the two roots, which are within their room (`Upper`).
use mathlib.Core.Path.{◌≡◌, ap₂, ◌∙◌}
use Prim.Native.Nat.{ℕ, ◌+◌, ◌*◌, ◌≤◌}
use native.Mathlib.Nat.{mul-le-mul, div-le_self}
use native.Mathlib.Omega.{arith}
use mir.Facts.{to_z-of_z}
use Rattle.segment.specs.Limits.{sum_room}
use Rattle.segment.specs.Upper.{sum_reach, upper_term}
use Rattle.segment.proofs.Upper.{reach_limit, scatter_reach_limit}
use Rattle.segment_bound.proofs.terms.segment_upper.Goals as goal

roots_most : (c : goal.After-scatter_reach-h) → c.scatter_reach-h.result ≤ 2 * sum_room
roots_most c =
    omega (arith, c.scatter_reach-h.ensures, scatter_reach_limit c.args.u c.args.greatest_scatter sum_room c.requires.5 c.requires.6)

-- what is known of G and of the two roots
reach_is : (c : goal.After-scatter_reach-h) → c.sum_reach-g.result ≡ sum_reach c.args.t c.args.least_sum c.args.greatest_sum
reach_is c =
    c.sum_reach-g.ensures ∙ rw (to_z-of_z c.ranges.t, to_z-of_z c.ranges.least_sum, to_z-of_z c.ranges.greatest_sum)

reach_most : (c : goal.After-scatter_reach-h) → c.sum_reach-g.result ≤ 2 * sum_room
reach_most c =
    omega (arith, reach_is c, reach_limit c.args.t c.args.least_sum c.args.greatest_sum sum_room c.requires.2 c.requires.3 c.requires.4)

pub upper_term-requires : goal.upper_term-requires
upper_term-requires c = (omega arith, omega arith, omega (arith, reach_most c), omega (arith, roots_most c))

pub returns : goal.returns
unfolding upper_term
returns c =
    let g : ℕ = c.sum_reach-g.result in
    let h : ℕ = c.scatter_reach-h.result in
    let hg = reach_most c.before in
    let hh = roots_most c.before in record {
      value = c.upper_term.ensures ∙ ap₂ (upper_term c.args.w) (reach_is c.before) c.scatter_reach-h.ensures;
      size = omega
          (arith, c.upper_term.ensures, mul-le-mul hg hg, mul-le-mul hh hh, div-le_self (g * g + h * h) c.args.w);
    }
