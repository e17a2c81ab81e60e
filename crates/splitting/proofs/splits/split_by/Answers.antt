-- `splitting::splits::split_by` meets its contract: the marks are those of the test, so that the two sides are its left and its right; the
-- records and the lists are then the definition's, one after the other.
use mathlib.Core.Path.{◌≡◌, sym, ap, ap₂, subst, ◌∙◌}
use mathlib.Core.Bool.{Bool, not}
use mathlib.Core.List.{List, []}
use Prim.Native.Nat.{ℕ, suc, ◌*◌, ◌≤◌, ◌<◌}
use native.Mathlib.Omega.{arith}
use native.Mathlib.Numerals.{add-one}
use lib.IntN.{ℤ, nat_abs}
use lib.ListN.{length, get_or, replicate, length-replicate}
use lib.Seq.{length-take-le}
use mir.Syntax.{w64}
use mir.Facts.{to_z-of_z}
use Rattle.integer.specs.Words.{those}
use Rattle.integer.proofs.Width.{small, read}
use Rattle.integer.proofs.Lists.{In}
use Rattle.segment.specs.Limits.{scatter_most}
use Rattle.dstree.specs.Measures.{Trace, most_samples}
use Rattle.dstree.specs.Node.{sends_left}
use Rattle.dstree.specs.Adding.{segments_of, traces_of}
use Rattle.dstree.specs.Formed.{Rises}
use Rattle.tables.specs.Tables.{with_record}
use Rattle.tables.specs.Walk.{stored_in, numbers_of, Stored}
use Rattle.leaf_figures.specs.Sides.{marked}
use Rattle.leaf_figures.specs.Ends.{ends_of}
use Rattle.tables.proofs.Listed.{numbers_below}
use Rattle.insertion_memory.specs.Records.{leaf_record, inner_record}
use Rattle.insertion_memory.specs.Links.{linked}
use Rattle.insertion_memory.specs.Memory.{tree_tables, on_record, split_to}
use Rattle.tables.specs.Runs.{test_by}
use Rattle.split_choice.specs.declared.choice.Choice.{Choice}
use Rattle.candidate.specs.Marking.{marks_by}
use Rattle.candidate.specs.Trials.{child_ends}
use Rattle.candidate.proofs.Marked.{left_side, right_side}
use Rattle.splitting.proofs.splits.split_by.Goals as goal

-- the records of both sides behind the others
abbrev both : List Trace → ℕ → List ℤ → List ℕ → List ℕ → List ℕ → List ℤ
both t m P es l r = with_record (with_record P m (leaf_record (segments_of es (traces_of t l)) (get_or l 0 0))) (suc m) (leaf_record (segments_of es (traces_of t r)) (get_or r 0 0))

-- what is known once the sides are marked, by the threshold as it is read back
module _ (samples : List ℤ) (links : List ℕ) (n k head : ℕ) (h : Choice) (p : Stored samples links n k head) (size : nat_abs h.threshold ≤ 2 * scatter_most most_samples) where
  abbrev numbers : List ℕ
  numbers = numbers_of links k head

  -- whether a trace goes left, and the sides
  abbrev left_by : ℤ → ℕ → Bool
  left_by z t = sends_left (test_by h.trial.on.first h.trial.on.last h.trial.by_scatter z) (get_or (stored_in samples n k) t [])

  abbrev lefts : List ℕ
  lefts = those (left_by h.threshold) numbers

  abbrev rights : List ℕ
  rights = those (λ t. not (left_by h.threshold t)) numbers

  room : (u : ℕ) → In u numbers → u < length (replicate {A = ℕ} 4096 0)
  room u i = omega (arith, numbers_below links k p.rising head u p.inside i, p.few, length-replicate {A = ℕ} 4096 0)

  back : read w64 h.threshold ≡ h.threshold
  back = to_z-of_z (small {w = w64} {z = h.threshold} (omega (arith, size)))

  module _ (marks : List ℕ) (made : marks ≡ marks_by (left_by (read w64 h.threshold)) (replicate 4096 0) numbers) where
    marks_are : marks ≡ marks_by (left_by h.threshold) (replicate 4096 0) numbers
    marks_are = subst (λ (z : ℤ). marks ≡ marks_by (left_by z) (replicate 4096 0) numbers) back made

    left_is : marked marks 1 numbers ≡ lefts
    left_is = ap (λ (m : List ℕ). marked m 1 numbers) marks_are ∙ left_side (left_by h.threshold) numbers (replicate 4096 0) room

    right_is : marked marks 2 numbers ≡ rights
    right_is = ap (λ (m : List ℕ). marked m 2 numbers) marks_are ∙ right_side (left_by h.threshold) numbers (replicate 4096 0) room

pub child_ends-child-requires : goal.child_ends-child-requires
child_ends-child-requires c =
    let e = c.args.e in
    let p = c.requires.room in
    (p, λ f. omega (arith, c.requires.fit.room f, length-take-le e.count e.at (omega (arith, p.places, p.few))))

pub write_sides-requires : goal.write_sides-requires
write_sides-requires c =
    let g = c.args in
    let r = c.requires in
    let m = c.mark_sides.new.marks in
    let made = c.mark_sides.ensures.marks_after in
    let rise : Rises g.n 1 (ends_of c.child_ends-child.result) = subst (Rises g.n 1) (sym c.child_ends-child.ensures.result_value) r.fit.rise in
    let left = left_is g.samples.now g.links.now g.n g.k g.head g.c r.stored r.threshold_size m made in
    let right = right_is g.samples.now g.links.now g.n g.k g.head g.c r.stored r.threshold_size m made in (
      omega (arith, r.parted.room),
      omega (arith, r.parted.few),
      record { stored = r.stored; all_marks = c.mark_sides.ensures.size; room = c.child_ends-child.ensures.room; rise = rise; some = omega (arith, ap length left, r.parted.left_some) },
      record { stored = r.stored; all_marks = c.mark_sides.ensures.size; room = c.child_ends-child.ensures.room; rise = rise; some = omega (arith, ap length right, r.parted.right_some) },
    )

pub relink-requires : goal.relink-requires
relink-requires c =
    let g = c.args in
    let r = c.requires in
    let p = r.stored in
    let m = c.mark_sides.new.marks in
    let made = c.mark_sides.ensures.marks_after in
    let left = left_is g.samples.now g.links.now g.n g.k g.head g.c r.stored r.threshold_size m made in
    let right = right_is g.samples.now g.links.now g.n g.k g.head g.c r.stored r.threshold_size m made in
    (p.inside, p.few, p.links_room, p.rising, c.mark_sides.ensures.size, omega (arith, ap length left, r.parted.left_some), omega (arith, ap length right, r.parted.right_some))

pub returns : goal.returns
unfolding split_to
returns c =
    let g = c.args in
    let r = c.requires in
    let t = stored_in g.samples.now g.n g.k in
    let N = g.nodes.now in
    let L = g.links.now in
    let m = g.count in
    let M = c.mark_sides.new.marks in
    let made = c.mark_sides.ensures.marks_after in
    let left = left_is g.samples.now g.links.now g.n g.k g.head g.c r.stored r.threshold_size M made in
    let right = right_is g.samples.now g.links.now g.n g.k g.head g.c r.stored r.threshold_size M made in
    let all = numbers_of L g.k g.head in
    let on_left = lefts g.samples.now L g.n g.k g.head g.c r.stored r.threshold_size in
    let on_right = rights g.samples.now L g.n g.k g.head g.c r.stored r.threshold_size in
    let test = test_by g.c.trial.on.first g.c.trial.on.last g.c.trial.by_scatter g.c.threshold in
    let P : c.become_inner.new.nodes ≡ on_record (inner_record test m (suc m)) N g.at =
    c.become_inner.ensures
    ∙ ap₂ (λ (z : ℤ) (j : ℕ). on_record (inner_record (test_by g.c.trial.on.first g.c.trial.on.last g.c.trial.by_scatter z) m j) N g.at)
    (back g.samples.now L g.n g.k g.head g.c r.stored r.threshold_size) (add-one m) in
    let nodes : c.write_sides.new.nodes ≡ both t m (on_record (inner_record test m (suc m)) N g.at) (child_ends g.c.trial.cut (ends_of g.e)) on_left on_right =
    c.write_sides.ensures
    ∙ (ap (λ (q : List ℤ). both t m q (ends_of c.child_ends-child.result) (marked M 1 all) (marked M 2 all)) P
    ∙ (ap (λ (es : List ℕ). both t m (on_record (inner_record test m (suc m)) N g.at) es (marked M 1 all) (marked M 2 all)) c.child_ends-child.ensures.result_value
    ∙ ap₂ (λ (x y : List ℕ). both t m (on_record (inner_record test m (suc m)) N g.at) (child_ends g.c.trial.cut (ends_of g.e)) x y) left right)) in
    let links : c.relink.new.links ≡ linked on_right (linked on_left L) = c.relink.ensures ∙ ap₂ (λ (x y : List ℕ). linked y (linked x L)) left right in
    ap₂ (λ (x : List ℤ) (y : List ℕ). tree_tables x y (suc (suc m))) nodes links
