-- `figures_below::figures::figures_below` meets its contract: the part that is lent is the node's numbers.
use mathlib.Core.Path.{◌≡◌, ap, ap₂, ◌∙◌}
use mathlib.Core.List.{List}
use Prim.Native.Nat.{ℕ, ◌+◌, ◌-◌}
use native.Mathlib.Omega.{arith}
use lib.ListN.{get_or, take, drop, length-take}
use Rattle.dstree.specs.Figures.{run}
use Rattle.dstree.specs.Adding.{segment_of}
use Rattle.leaf_figures.specs.Rows.{traces_at}
use Rattle.figures_below.specs.Compared.{numbers_laid_at}
use Rattle.figures_below.proofs.figures.figures_below.Goals as goal

-- the part that is lent, between both ends
part_is : (sizes starts order : List ℕ) (j : ℕ) {from size : ℕ} → from ≡ get_or starts j 0 → size ≡ get_or sizes j 0 → take (from + size - from) (drop from order) ≡ numbers_laid_at sizes starts
    order j
part_is sizes starts order j {from} {size} from_is size_is =
    let e : from + size - from ≡ size = omega arith in
    ap₂ (λ (a b : ℕ). take a (drop b order)) (e ∙ size_is) from_is

pub offset_bounds-starts-j : goal.offset_bounds-starts-j
offset_bounds-starts-j c = omega (arith, c.requires.0.inside, c.requires.0.ready.nodes_few)

pub bounds-starts-j : goal.bounds-starts-j
bounds-starts-j c = omega (arith, c.requires.0.inside, c.requires.0.ready.nodes_few, c.requires.0.ready.starts_places)

pub offset_bounds-sizes-j : goal.offset_bounds-sizes-j
offset_bounds-sizes-j c = omega (arith, c.requires.0.inside, c.requires.0.ready.nodes_few)

pub bounds-sizes-j : goal.bounds-sizes-j
bounds-sizes-j c = omega (arith, c.requires.0.inside, c.requires.0.ready.nodes_few, c.requires.0.ready.sizes_places)

pub overflow_add-to : goal.overflow_add-to
overflow_add-to c = omega (arith, c.from-from.ensures, c.from.ensures, c.requires.0.ready.inside c.args.j c.requires.0.inside)

pub offset_bounds-order-from : goal.offset_bounds-order-from
offset_bounds-order-from c = omega (arith, c.from-from.ensures, c.from.ensures, c.requires.0.ready.inside c.args.j c.requires.0.inside)

pub slice_bounds-listed_figures-count : goal.slice_bounds-listed_figures-count
slice_bounds-listed_figures-count c = omega (arith, c.from-from.ensures, c.from.ensures, c.requires.0.ready.inside c.args.j c.requires.0.inside)

pub slice_bounds-listed_figures-start : goal.slice_bounds-listed_figures-start
slice_bounds-listed_figures-start c = omega (arith, c.from-from.ensures, c.from.ensures, c.requires.0.ready.inside c.args.j c.requires.0.inside)

pub slice_bounds-listed_figures-end : goal.slice_bounds-listed_figures-end
slice_bounds-listed_figures-end c = omega (arith, c.from-from.ensures, c.from.ensures, c.requires.0.ready.inside c.args.j c.requires.0.inside, c.requires.0.ready.order_places)

pub listed_figures-requires : goal.listed_figures-requires
listed_figures-requires c =
    rw (part_is c.args.sizes.now c.args.starts.now c.args.order.now c.args.j c.from-from.ensures c.from.ensures) (
      c.requires.0.ready.narrow,
      c.requires.1,
      simp length-take (omega (arith, c.requires.0.ready.inside c.args.j c.requires.0.inside)),
      λ t i. c.requires.0.ready.stored c.args.j t
          c.requires.0.inside i,
    )

pub returns : goal.returns
returns c =
    let a = c.args in
    c.listed_figures.ensures
    ∙ ap (λ (l : List ℕ). segment_of (traces_at a.samples.now a.n l) (run a.first a.last)) (part_is c.args.sizes.now c.args.starts.now c.args.order.now c.args.j c.from-from.ensures c.from.ensures)
