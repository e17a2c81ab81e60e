-- `leaf_figures::lists::list_leaf` meets its contract: what is listed and the numbers that are still to come make the leaf's numbers.
use mathlib.Core.Path.{sym, ap, ◌∙◌}
use mathlib.Core.List.{List, ◌++◌, append-nil}
use Prim.Native.Nat.{ℕ, ◌+◌, ◌≤◌, ◌<◌}
use native.Mathlib.Omega.{arith}
use lib.ListN.{set, take, length-set}
use Rattle.tables.specs.Walk.{behind_of}
use Rattle.tables.proofs.Listed.{met_from, met_start, met_more, met_end, behind_rises}
use Rattle.leaf_figures.proofs.Listing.{listed_more}
use Rattle.leaf_figures.proofs.lists.list_leaf.Goals as goal

-- how far the walk goes on
further : (c : goal.After-behind-t) → (c.loop-t.t < c.behind-t.result) × (c.behind-t.result ≤ c.args.k)
further c =
    let h = behind_rises c.args.links.now c.args.k c.requires.3 c.loop-t.t c.loop-t-test.true in
    (omega (arith, h, c.behind-t.ensures), omega (arith, h, c.behind-t.ensures))

pub loop-t-init : goal.loop-t-init
loop-t-init c =
    (omega (arith, c.requires.0), omega arith, c.requires.4, met_start c.args.links.now c.args.k c.args.head c.requires.0)

pub overflow_cast-list : goal.overflow_cast-list
overflow_cast-list c = omega (arith, c.requires.1)

pub offset_bounds-list-count : goal.offset_bounds-list-count
offset_bounds-list-count c = omega (arith, c.requires.1)

pub bounds-list-count : goal.bounds-list-count
bounds-list-count c = omega (arith, c.requires.1)

pub overflow_add-count : goal.overflow_add-count
overflow_add-count c = omega (arith, c.requires.1)

pub behind-t-requires : goal.behind-t-requires
behind-t-requires c = omega (arith, c.requires.2)

pub loop-t-smaller : goal.loop-t-smaller
loop-t-smaller c = let h = further c in omega (arith, h)

pub loop-t-preserved : goal.loop-t-preserved
loop-t-preserved c =
    let a = c.args in
    let l = c.loop-t in
    let h = further c in
    let list = take l.count l.list in (
      h.1,
      omega (arith, h.0, l.invariant.1),
      length-set l.list l.count l.t ∙ l.invariant.2,
      ap (λ (u : ℕ). take (l.count + 1) (set l.list l.count l.t) ++ met_from a.links.now a.k u) c.behind-t.ensures
          ∙ (listed_more l.list l.count l.t (met_from a.links.now a.k (behind_of a.links.now a.k l.t))
          (omega (arith, l.invariant.2, l.invariant.1, c.requires.1, c.loop-t-test.true))
          ∙ (ap (λ (m : List ℕ). list ++ m) (sym (met_more a.links.now a.k c.requires.3 l.t c.loop-t-test.true)) ∙ l.invariant.3)),
    )

pub returns : goal.returns
returns c =
    let l = c.loop-t in
    let none = met_end c.args.links.now c.args.k l.t c.loop-t-test.false in record {
      list_after = sym (append-nil (take l.count l.list)) ∙
          (ap (λ (m : List ℕ). take l.count l.list ++ m) (sym none) ∙ l.invariant.3);
      few = omega (arith, l.invariant.0, l.invariant.1, c.requires.1);
      size = l.invariant.2;
    }
