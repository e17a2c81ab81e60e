-- `examples::walks::walk_of` meets its contract: the list is the leaf's numbers, and no figures are kept.
use mathlib.Core.Path.{ap₂, subst, ◌∙◌}
use mathlib.Core.List.{List}
use Prim.Native.Nat.{ℕ, ◌<◌}
use native.Mathlib.Omega.{arith}
use lib.IntN.{ℤ}
use lib.ListN.{take, length-take}
use mir.Facts.{to_z-of_z}
use Rattle.integer.proofs.Lists.{In}
use Rattle.tables.specs.Walk.{stored_in}
use Rattle.tables.specs.Runs.{test_by}
use Rattle.tables.proofs.Listed.{numbers_below, run_in}
use Rattle.leaf_figures.proofs.Filled.{no_viewed_rows}
use Rattle.std.proofs.lemmas.Option.{none-some}
use Rattle.candidate.specs.Parting.{look_of}
use Rattle.examples.proofs.walks.walk_of.Goals as goal

pub list_leaf-count-requires : goal.list_leaf-count-requires
list_leaf-count-requires c = let p = c.requires in (p.inside, p.few, p.links_room, p.rising, omega arith)

pub invariant_of-traces : goal.invariant_of-traces
invariant_of-traces c =
    let p = c.requires in
    let g = c.list_leaf-count in
    let x = c.args.leaf in
    let below : (t : ℕ) → In t (take g.result g.new.list) → t < x.k =
    λ t i. numbers_below x.links.now x.k p.rising x.head t p.inside (subst (In t) g.ensures.list_after i) in record {
      inside = record {
        narrow = p.narrow;
        few = omega (arith, length-take g.result g.new.list, g.ensures.few);
        inside = λ t i. (run_in {first = 1} {last = 1} p (record { from_1 = omega arith; rises = omega arith; to_n = p.wide }) t (below t i)).room;
        below = below;
      };
    }

pub invariant_of-rows : goal.invariant_of-rows
invariant_of-rows c = record { rows = no_viewed_rows _ _ _ (λ f v at. absurd (none-some v at)) }

pub look_along-requires : goal.look_along-requires
look_along-requires c = record { from_1 = omega arith; rises = c.requires.wide; to_n = omega arith }

pub returns : goal.returns
returns c =
    let x = c.args.leaf in
    c.look_along.ensures
    ∙ ap₂ (λ (z : ℤ) (m : List ℕ). look_of (stored_in x.samples.now x.n x.k) (test_by 1 x.n c.args.by_scatter z) m)
    (to_z-of_z c.ranges.threshold) c.list_leaf-count.ensures.list_after
