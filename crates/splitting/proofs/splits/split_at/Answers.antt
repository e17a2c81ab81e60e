-- `splitting::splits::split_at` meets its contract: each test is the definition's (`Tried`), and the choice is the best split of the leaf.
use mathlib.Core.Path.{◌≡◌, sym, ap, ap₂, subst, ◌∙◌}
use mathlib.Core.Bool.{Bool, true, false}
use mathlib.Core.Option.{none, some}
use mathlib.Core.List.{List}
use Prim.Native.Nat.{ℕ, suc, ◌+◌, ◌≤◌, ◌<◌}
use native.Mathlib.Omega.{arith}
use lib.IntN.{ℤ}
use lib.ListN.{length}
use lib.Dec.{ltb}
use Rattle.dstree.specs.Node.{ends}
use Rattle.dstree.specs.Adding.{best}
use Rattle.dstree.specs.Formed.{Rises}
use Rattle.tables.specs.Layout.{segments_place, first_place, record_places}
use Rattle.tables.specs.Tables.{record_of}
use Rattle.tables.specs.View.{small_at, segments_in}
use Rattle.tables.specs.Walk.{stored_in, numbers_of, Rising, Stored}
use Rattle.tables.proofs.Frame.{record_length}
use Rattle.tables.proofs.Listed.{stored_size}
use Rattle.leaf_figures.specs.Ends.{ends_of}
use Rattle.insertion_memory.specs.Memory.{tree_tables, split_to}
use Rattle.split_choice.specs.Choosing.{split_of}
use Rattle.splitting.proofs.Tried.{split_inner, short_stays, long_splits}
use Rattle.splitting.proofs.splits.split_at.Goals as goal

module _ (nodes : List ℤ) (links : List ℕ) (samples : List ℤ) (n k at : ℕ) where
  abbrev r : List ℤ
  r = record_of nodes at

  -- whether the leaf is long, by the list that starts at `j`
  longer_is : (leaf_size j : ℕ) (b v : Bool) → b ≡ ltb leaf_size (length (numbers_of links k j)) → j ≡ small_at r first_place → b ≡ v
      → ltb leaf_size (length (numbers_of links k (small_at r first_place))) ≡ v
  longer_is leaf_size j b v e f g = sym (e ∙ ap (λ (i : ℕ). ltb leaf_size (length (numbers_of links k i))) f) ∙ g

  -- the best split, by the right ends `es` and the list that starts at `j`
  best_same : (es : List ℕ) (j : ℕ) → es ≡ ends (segments_in r) → j ≡ small_at r first_place
      → best (stored_in samples n k) (ends (segments_in r)) (numbers_of links k (small_at r first_place)) ≡ best (stored_in samples n k) es (numbers_of links k j)
  best_same es j e f = ap₂ (λ (l : List ℕ) (i : ℕ). best (stored_in samples n k) l (numbers_of links k i)) (sym e) (sym f)

pub returns-then-node_small-ne0 : goal.returns-then-node_small-ne0
returns-then-node_small-ne0 c =
    let g = c.args in
    sym (split_inner g.leaf_size (stored_in g.samples.now g.n g.k) g.nodes.now g.links.now g.count g.at (λ e. c.if-node_small-ne0.true (c.node_small.ensures ∙ e)))

pub leaf_longer-longer-requires : goal.leaf_longer-longer-requires
leaf_longer-longer-requires c =
    let g = c.args in
    let p = (c.requires.is_leaf (sym c.node_small.ensures ∙ c.if-node_small-ne0.false)).stored in
    subst (λ (j : ℕ). (j < g.k) × (g.k ≤ length g.links.now) × Rising g.links.now g.k)
    (sym c.node_small-head.ensures) (p.inside, p.links_room, p.rising)

pub returns-then-not-longer : goal.returns-then-not-longer
returns-then-not-longer c =
    let g = c.args in
    let e = longer_is g.nodes.now g.links.now g.samples.now g.n g.k g.at g.leaf_size c.node_small-head.result c.leaf_longer-longer.result false
    c.leaf_longer-longer.ensures c.node_small-head.ensures c.if-not-longer.true in
    sym (short_stays g.leaf_size (stored_in g.samples.now g.n g.k) g.nodes.now g.links.now g.count g.at g.k (stored_size g.samples.now g.n g.k)
    (sym c.node_small.ensures ∙ c.if-node_small-ne0.false) e)

pub record_at-requires : goal.record_at-requires
record_at-requires c =
    let p = c.requires in
    (omega (arith, p.room, p.inside), omega (arith, p.few, p.inside))

pub ends_of-e-requires : goal.ends_of-e-requires
ends_of-e-requires c =
    let g = c.args in
    let p = c.requires in
    subst (λ (r : List ℤ). (length r ≡ record_places) × (small_at r segments_place ≤ 16)) (sym c.record_at.ensures)
    (record_length g.nodes.now g.at (omega (arith, p.room, p.inside)), (p.is_leaf (sym c.node_small.ensures ∙ c.if-node_small-ne0.false)).few)

pub choose-requires : goal.choose-requires
choose-requires c =
    let g = c.args in
    let p = c.requires.is_leaf (sym c.node_small.ensures ∙ c.if-node_small-ne0.false) in
    let ends_are = c.ends_of-e.ensures.result_value ∙ ap (λ (r : List ℤ). ends (segments_in r)) c.record_at.ensures in (
      subst (λ (j : ℕ). Stored g.samples.now g.links.now g.n g.k j) (sym c.node_small-head.ensures) p.stored,
      c.ends_of-e.ensures.room,
      subst (Rises g.n 1) (sym ends_are) p.rise,
    )

pub returns-in-None : goal.returns-in-None
unfolding split_to
returns-in-None c =
    let g = c.args in
    let t = stored_in g.samples.now g.n g.k in
    let j = c.node_small-head.result in
    let longer = longer_is g.nodes.now g.links.now g.samples.now g.n g.k g.at g.leaf_size j c.leaf_longer-longer.result true
    c.leaf_longer-longer.ensures c.node_small-head.ensures c.if-not-longer.false in
    let ends_are = c.ends_of-e.ensures.result_value ∙ ap (λ (r : List ℤ). ends (segments_in r)) c.record_at.ensures in
    let same = best_same g.nodes.now g.links.now g.samples.now g.n g.k g.at (ends_of c.ends_of-e.result) j ends_are c.node_small-head.ensures in
    sym (long_splits g.leaf_size t g.nodes.now g.links.now g.count g.at g.k (stored_size g.samples.now g.n g.k)
    (sym c.node_small.ensures ∙ c.if-node_small-ne0.false) longer none
    (same ∙ sym c.in-None.ensures.result_value))

pub split_by-requires : goal.split_by-requires
split_by-requires c =
    let g = c.args in
    let t = stored_in g.samples.now g.n g.k in
    let j = c.node_small-head.result in
    let ok = c.in-Some.ensures.sound in
    let p = c.requires.is_leaf (sym c.node_small.ensures ∙ c.if-node_small-ne0.false) in
    let all = ends_of c.ends_of-e.result in
    let listed = numbers_of g.links.now g.k j in
    let ends_are = c.ends_of-e.ensures.result_value ∙ ap (λ (r : List ℤ). ends (segments_in r)) c.record_at.ensures in
    let same = best_same g.nodes.now g.links.now g.samples.now g.n g.k g.at all j ends_are c.node_small-head.ensures in
    record {
      inside = c.requires.inside;
      stored = subst (λ (i : ℕ). Stored g.samples.now g.links.now g.n g.k i) (sym c.node_small-head.ensures) p.stored;
      room = c.ends_of-e.ensures.room;
      fit = ok.fit;
      threshold_size = ok.size;
      parted = p.parted (split_of t all listed c.in-Some.c) (same ∙ sym c.in-Some.ensures.result_value);
    }

pub overflow_add-result : goal.overflow_add-result
overflow_add-result c = omega (arith, c.requires.few)

pub returns-in-Some : goal.returns-in-Some
returns-in-Some c =
    let g = c.args in
    let t = stored_in g.samples.now g.n g.k in
    let j = c.node_small-head.result in
    let all = ends_of c.ends_of-e.result in
    let listed = numbers_of g.links.now g.k j in
    let longer = longer_is g.nodes.now g.links.now g.samples.now g.n g.k g.at g.leaf_size j c.leaf_longer-longer.result true
    c.leaf_longer-longer.ensures c.node_small-head.ensures c.if-not-longer.false in
    let ends_are = c.ends_of-e.ensures.result_value ∙ ap (λ (r : List ℤ). ends (segments_in r)) c.record_at.ensures in
    let same = best_same g.nodes.now g.links.now g.samples.now g.n g.k g.at all j ends_are c.node_small-head.ensures in
    let two : g.count + 2 ≡ suc (suc g.count) = omega arith in
    ap (λ (m : ℕ). tree_tables c.split_by.new.nodes c.split_by.new.links m) two
    ∙ (c.split_by.ensures ∙ sym (long_splits g.leaf_size t g.nodes.now g.links.now g.count g.at g.k
    (stored_size g.samples.now g.n g.k) (sym c.node_small.ensures ∙ c.if-node_small-ne0.false) longer (some (split_of t all listed c.in-Some.c))
    (same ∙ sym c.in-Some.ensures.result_value)))
