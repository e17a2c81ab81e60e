-- `leaf_figures::ends::ends_of` meets its contract: after i turns the first i places hold the first i segments' ends.
use mathlib.Core.Path.{◌≡◌, sym, ◌∙◌}
use mathlib.Core.List.{map, map-map}
use Prim.Native.Nat.{ℕ}
use native.Mathlib.Omega.{arith}
use lib.ListN.{take, length-set}
use lib.Seq.{get_or-set_same, get_or-set_other}
use borrow.Author.Count.{below_more}
use Rattle.integer.specs.Words.{counting}
use Rattle.dstree.specs.Node.{Segment}
use Rattle.tables.specs.Layout.{segment_at, segments_place}
use Rattle.tables.specs.View.{small_at, segment_in, segments_in}
use Rattle.leaf_figures.proofs.Placed.{filled_is}
use Rattle.leaf_figures.proofs.ends.ends_of.Goals as goal

pub small_at-count-requires : goal.small_at-count-requires
small_at-count-requires c = (c.requires.0, omega arith)

pub loop-i-init : goal.loop-i-init
loop-i-init c = (omega arith, omega (arith, c.small_at-count.ensures, c.requires.1), omega arith, λ j h. absurd (omega arith))

pub small_at-requires : goal.small_at-requires
small_at-requires c = (c.requires.0, omega arith)

pub loop-i-preserved : goal.loop-i-preserved
loop-i-preserved c =
    let r = c.args.«record».now in
    let l = c.loop-i in (
      omega arith,
      l.invariant.1,
      length-set l.at l.i c.small_at.result ∙ l.invariant.2,
      below_more _ l.i
          (λ j h. get_or-set_other l.at l.i j c.small_at.result 0 (λ e. omega arith) ∙ l.invariant.3 j h)
          (get_or-set_same l.at l.i c.small_at.result 0 (omega (arith, l.invariant.2)) ∙ c.small_at.ensures),
    )

pub returns : goal.returns
unfolding segments_in segment_in
returns c =
    let r = c.args.«record».now in
    let l = c.loop-i in
    let count = c.small_at-count.result in
    let e : take count l.at ≡ map (λ (j : ℕ). small_at r (segment_at j)) (counting count 0) =
    filled_is (λ (j : ℕ). small_at r (segment_at j)) l.at count (omega (arith, l.invariant.2)) (λ j h. l.invariant.3 j (omega arith)) in record {
      result_value = e ∙ (rw c.small_at-count.ensures (sym (map-map (λ (s : Segment). s.end) (segment_in r) (counting (small_at r segments_place) 0))));
      room = record
          { places = l.invariant.2; few = l.invariant.1 };
    }
