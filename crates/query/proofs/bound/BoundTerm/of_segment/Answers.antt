-- `query::bound::Bound::of_segment` meets its contract: it is the definition's term at the query's figures and the record's fields, and these
-- are within the limits.
use mathlib.Core.Path.{◌≡◌, ap, ap₂, ◌∙◌}
use Prim.Native.Nat.{ℕ, suc, ◌+◌, ◌-◌, ◌≤◌}
use native.Mathlib.Omega.{arith}
use lib.IntN.{ℤ}
use mir.Syntax.{w64}
use mir.Facts.{to_z-of_z}
use Rattle.integer.proofs.Width.{of_mag, read}
use Rattle.segment.specs.Terms.{sum_gap, scatter_gap, bound_term}
use Rattle.dstree.specs.Measures.{most_samples}
use Rattle.dstree.specs.Figures.{run, width}
use Rattle.dstree.specs.Node.{Segment}
use Rattle.dstree.specs.Matching.{bound_on}
use Rattle.tables.specs.View.{scatter_in, segment_in}
use Rattle.prefixes.proofs.Cut.{sum_most_lem, scatter_most_lem}
use Rattle.query.proofs.Own.{few_words}
use Rattle.query.proofs.bound.BoundTerm.of_segment.Goals as goal

-- the figures and the fields, as they are read back
module _ (c : goal.After-struct_told-1) where
  abbrev start : goal.After-struct_told-1
  start = c

  abbrev segment : Segment
  segment = segment_in start.args.«record».now start.args.i

  abbrev sum : ℤ
  sum = c.figures_on-f.result.sum

  sum_read : read w64 sum ≡ sum
  sum_read = to_z-of_z (of_mag {w = w64} sum c.struct_told-1.given.0.1)

  least_read : read w64 c.value_at-least_sum.result ≡ segment.least_sum
  unfolding segment_in
  least_read = let v = c.value_at-least_sum in to_z-of_z (of_mag {w = w64} v.result v.type_inv) ∙ v.ensures

  greatest_read : read w64 c.value_at-greatest_sum.result ≡ segment.greatest_sum
  unfolding segment_in
  greatest_read = let v = c.value_at-greatest_sum in to_z-of_z (of_mag {w = w64} v.result v.type_inv) ∙ v.ensures

  least_scatter_lem : c.scatter-least.result ≡ segment.least_scatter
  unfolding segment_in
  least_scatter_lem = let v = c.value_at in c.scatter-least.ensures ∙ ap scatter_in (to_z-of_z (of_mag {w = w64} v.result v.type_inv) ∙ v.ensures)

  greatest_scatter_lem : c.scatter-greatest.result ≡ segment.greatest_scatter
  unfolding segment_in
  greatest_scatter_lem = let v = c.value_at-2 in c.scatter-greatest.ensures ∙ ap scatter_in (to_z-of_z (of_mag {w = w64} v.result v.type_inv) ∙ v.ensures)

-- the figures and the fields, as they are read back
module _ (c : goal.After-segment_bound) where
  abbrev start_2 : goal.After-segment_bound
  start_2 = c

  abbrev segment_2 : Segment
  segment_2 = segment_in start_2.args.«record».now start_2.args.i

  abbrev sum_2 : ℤ
  sum_2 = c.figures_on-f.result.sum

  sum_read_2 : read w64 sum_2 ≡ sum_2
  sum_read_2 = to_z-of_z (of_mag {w = w64} sum_2 c.struct_told-1.given.0.1)

  least_read_2 : read w64 c.value_at-least_sum.result ≡ segment_2.least_sum
  unfolding segment_in
  least_read_2 = let v = c.value_at-least_sum in to_z-of_z (of_mag {w = w64} v.result v.type_inv) ∙ v.ensures

  greatest_read_2 : read w64 c.value_at-greatest_sum.result ≡ segment_2.greatest_sum
  unfolding segment_in
  greatest_read_2 = let v = c.value_at-greatest_sum in to_z-of_z (of_mag {w = w64} v.result v.type_inv) ∙ v.ensures

  least_scatter_lem_2 : c.scatter-least.result ≡ segment_2.least_scatter
  unfolding segment_in
  least_scatter_lem_2 = let v = c.value_at in c.scatter-least.ensures ∙ ap scatter_in (to_z-of_z (of_mag {w = w64} v.result v.type_inv) ∙ v.ensures)

  greatest_scatter_lem_2 : c.scatter-greatest.result ≡ segment_2.greatest_scatter
  unfolding segment_in
  greatest_scatter_lem_2 = let v = c.value_at-2 in c.scatter-greatest.ensures ∙ ap scatter_in (to_z-of_z (of_mag {w = w64} v.result v.type_inv) ∙ v.ensures)

pub segment_bound-requires : goal.segment_bound-requires
segment_bound-requires c =
    let s = start c in
    let f = c.figures_on-f in
    let w : width (run s.args.first s.args.last) ≤ most_samples = omega (arith, s.requires.0.from_1, s.requires.0.to_n, few_words s.args.query.now.trace.now s.args.query.now.summed) in
    let m = s.requires.3 in
    rw (sum_read c, least_read c, greatest_read c) (
      omega arith,
      omega (arith, s.requires.0.from_1, s.requires.0.to_n, few_words s.args.query.now.trace.now s.args.query.now.summed),
      omega (arith, sum_most_lem w f.ensures.size.0),
      omega (arith, sum_most_lem w m.least_sum_lem),
      omega (arith, sum_most_lem w m.greatest_sum_lem),
      omega (arith, scatter_most_lem w f.ensures.size.1),
      omega (arith, least_scatter_lem c, m.scatters, scatter_most_lem w m.greatest_scatter_lem),
    )

pub returns : goal.returns
unfolding bound_on
returns c =
    let s = start_2 c in
    let f = c.figures_on-f in
    let on = run s.args.first s.args.last in
    let g = segment_2 c in
    let m = s.requires.3 in
    let w : s.args.last - s.args.first + 1 ≡ suc s.args.last - s.args.first = omega (arith, s.requires.0.rises) in
    let low = c.scatter-least.result in
    let high = c.scatter-greatest.result in
    let gives : c.segment_bound.result ≡ bound_term (suc s.args.last - s.args.first) (sum_gap f.result.sum g.least_sum g.greatest_sum) (scatter_gap f.result.scatter low high) =
    rw (sum_read_2 c, least_read_2 c, greatest_read_2 c, w) at c.segment_bound.ensures.value in
    let e : c.segment_bound.result ≡ bound_term (suc s.args.last - s.args.first) (sum_gap f.result.sum g.least_sum g.greatest_sum)
    (scatter_gap f.result.scatter g.least_scatter g.greatest_scatter) =
    gives ∙ ap₂ (λ (a b : ℕ). bound_term (width on) (sum_gap f.result.sum g.least_sum g.greatest_sum) (scatter_gap f.result.scatter a b)) (least_scatter_lem_2 c) (greatest_scatter_lem_2 c) in record {
      value = e ∙ ap₂ (λ (t : ℤ) (u : ℕ). bound_term (width on) (sum_gap t g.least_sum g.greatest_sum) (scatter_gap u g.least_scatter g.greatest_scatter)) f.ensures.sum f.ensures.scatter;
      size = c.segment_bound.ensures.size;
    }
