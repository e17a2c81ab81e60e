-- `splitting::lists::relink` meets its contract: both sides are listed by the links as they were, and each is laid from its array.
use mathlib.Core.Path.{◌≡◌, ap, ap₂, subst, ◌∙◌}
use mathlib.Core.List.{List}
use Prim.Native.Nat.{ℕ, ◌<◌}
use native.Mathlib.Omega.{arith}
use lib.ListN.{length, get_or, take}
use Rattle.integer.proofs.Lists.{In, in_get_or}
use Rattle.tables.specs.Walk.{Rising, numbers_of}
use Rattle.leaf_figures.specs.Sides.{marked}
use Rattle.insertion_memory.specs.Links.{linked}
use Rattle.insertion_memory.proofs.Following.{laid_length}
use Rattle.splitting.proofs.Walks.{marked_below}
use Rattle.splitting.proofs.lists.relink.Goals as goal

-- a side that is laid has numbers of traces
inside : (order links : List ℕ) (marks : List ℕ) (k head mark : ℕ) → Rising links k → head < k
    → order ≡ marked marks mark (numbers_of links k head) → (i : ℕ) → i < length order → get_or order i 0 < k
inside order links marks k head mark rising h is i j =
    marked_below links k rising head h marks mark (get_or order i 0) (subst (In (get_or order i 0)) is (in_get_or order i 0 j))

pub lay-requires : goal.lay-requires
lay-requires c =
    let p = c.requires in
    let a = c.args in
    let l = c.list_side-many_left in
    let side = take l.result l.new.order in (
      omega (arith, ap length l.ensures.order_after, p.5),
      λ i h. omega (arith, inside side a.links.now a.marks.now a.k a.head 1 p.3 p.0 l.ensures.order_after i h, p.2),
    )

pub lay-requires-2 : goal.lay-requires-2
lay-requires-2 c =
    let p = c.requires in
    let a = c.args in
    let l = c.list_side-many_left in
    let r = c.list_side-many_right in
    let side = take r.result r.new.order in
    let e : length c.lay.new.links ≡ length a.links.now = ap length c.lay.ensures ∙ laid_length (take l.result l.new.order) a.links.now in (
      omega (arith, ap length r.ensures.order_after, p.6),
      λ i h. omega (arith, inside side a.links.now a.marks.now a.k a.head 2 p.3 p.0 r.ensures.order_after i h, p.2, e),
    )

pub returns : goal.returns
returns c =
    let links = c.args.links.now in
    c.lay-2.ensures
    ∙ ap₂ linked c.list_side-many_right.ensures.order_after (c.lay.ensures ∙ ap (λ (l : List ℕ). linked l links) c.list_side-many_left.ensures.order_after)
