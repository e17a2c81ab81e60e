-- `splitting::pass::split_pass` meets its contract: at each turn the rest of the pass, with one fuel less for each node that was passed,
-- comes to the whole. Nodes and links stand for a tree at each turn (`Kept`), which has less than 2k nodes, so that there is fuel left, and
-- what is left to 2k falls.
use mathlib.Core.Path.{◌≡◌, refl, sym, ap, ap₂, ◌∙◌}
use Prim.Native.Nat.{ℕ, suc, ◌+◌, ◌*◌, ◌-◌}
use native.Mathlib.Omega.{arith}
use native.Mathlib.Numerals.{add-one}
use Rattle.tables.specs.Walk.{stored_in}
use Rattle.insertion_memory.specs.Memory.{TreeTables, tree_tables, split_node, split_on}
use Rattle.insertion_memory.proofs.Splitting.{pass_over, pass_turn}
use Rattle.splitting.proofs.Kept.{count_most, tries, nodes_stay, links_stay, represents_on}
use Rattle.splitting.proofs.pass.split_pass.Goals as goal

pub loop-at-init : goal.loop-at-init
loop-at-init c =
    let g = c.args in
    let e : 2 * g.k - (g.from - g.from) ≡ 2 * g.k = omega arith in
    (omega arith, c.requires, ap (λ (f : ℕ). split_on f g.leaf_size (stored_in g.samples.now g.n g.k) (tree_tables g.nodes.now g.links.now g.many) g.from) e, refl, refl)

pub split_at-count-requires : goal.split_at-count-requires
split_at-count-requires c = let l = c.loop-at in tries l.invariant.1 l.at c.loop-at-test.true

pub overflow_add-at : goal.overflow_add-at
overflow_add-at c = omega (arith, c.loop-at-test.true, count_most c.loop-at.invariant.1, c.ranges.k)

pub loop-at-smaller : goal.loop-at-smaller
loop-at-smaller c = omega (arith, c.loop-at-test.true, count_most c.loop-at.invariant.1)

pub loop-at-preserved : goal.loop-at-preserved
loop-at-preserved c =
    let l = c.loop-at in
    let g = c.args in
    let t = stored_in g.samples.now g.n g.k in
    let e : tree_tables c.split_at-count.new.nodes c.split_at-count.new.links c.split_at-count.result ≡ split_node g.leaf_size t (tree_tables l.nodes l.links l.count) l.at =
    c.split_at-count.ensures in
    let f = 2 * g.k - (l.at + 1 - g.from) in
    let fuel : suc f ≡ 2 * g.k - (l.at - g.from) = omega (arith, c.loop-at-test.true, count_most l.invariant.1, l.invariant.0) in (
      omega arith,
      represents_on l.invariant.1 l.at c.loop-at-test.true g.leaf_size c.split_at-count.new.nodes c.split_at-count.new.links c.split_at-count.result e,
      ap₂ (λ (h : TreeTables) (j : ℕ). split_on f g.leaf_size t h j) e (add-one l.at)
          ∙ (sym (pass_turn f g.leaf_size t (tree_tables l.nodes l.links l.count) l.at c.loop-at-test.true)
          ∙ (ap (λ (m : ℕ). split_on m g.leaf_size t (tree_tables l.nodes l.links l.count) l.at) fuel ∙ l.invariant.2)),
      nodes_stay l.invariant.1 l.at c.loop-at-test.true g.leaf_size c.split_at-count.new.nodes c.split_at-count.new.links c.split_at-count.result e ∙ l.invariant.3,
      links_stay l.invariant.1 l.at c.loop-at-test.true g.leaf_size c.split_at-count.new.nodes c.split_at-count.new.links c.split_at-count.result e ∙ l.invariant.4,
    )

pub shape_of-nodes : goal.shape_of-nodes
shape_of-nodes c = c.loop-at.invariant.3

pub shape_of-links : goal.shape_of-links
shape_of-links c = c.loop-at.invariant.4

pub returns : goal.returns
returns c =
    let l = c.loop-at in
    let g = c.args in
    sym (pass_over (2 * g.k - (l.at - g.from)) g.leaf_size (stored_in g.samples.now g.n g.k) (tree_tables l.nodes l.links l.count) l.at c.loop-at-test.false) ∙ l.invariant.2
