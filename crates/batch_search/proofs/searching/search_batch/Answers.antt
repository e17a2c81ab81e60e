-- `batch_search::searching::search_batch` meets its contract: nothing is marked at first, and what is kept in the end is what the steps
-- give (`Sweeps`).
use mathlib.Core.Path.{◌≡◌, ◌∙◌, subst, sym}
use mathlib.Core.List.{List}
use Prim.Native.Nat.{ℕ, ◌≤◌, ◌<◌}
use native.Mathlib.Omega.{arith}
use lib.IntN.{ℤ}
use lib.ListN.{length, get_or, replicate, length-replicate, get_or-replicate}
use Rattle.integer.specs.Written.{Written}
use Rattle.dstree.specs.Matching.{leaves}
use Rattle.tables.specs.Tables.{Tables, node_count}
use Rattle.tables.specs.View.{tree_in}
use Rattle.search.specs.Lent.{stored_tables}
use Rattle.batch_leaves.specs.LeavesRead.{Searchable, marked_of}
use Rattle.batch_leaves.proofs.Runs.{nodes_few}
use Rattle.batch_leaves.proofs.Marks.{marked_none}
use Rattle.batch_search.proofs.Sweeps.{keeps_none, marked_few, batch_found}
use Rattle.batch_search.proofs.searching.search_batch.Goals as goal

-- no mark
abbrev blank : List ℕ
blank = replicate 8192 0

module _ {t : Tables} {run : List ℤ} {many : ℕ} (s : Searchable t run many) where
  few : node_count t ≤ 8191
  few = nodes_few t run many s

  no_mark : (j : ℕ) → j < node_count t → get_or blank j 0 ≡ 0
  no_mark j h = get_or-replicate 8192 j 0 0 (omega (arith, h, few))

pub search_marks-leaves-requires : goal.search_marks-leaves-requires
search_marks-leaves-requires c =
    let s = c.requires.0 in (
      s,
      record {
        bests_long = omega (arith, s.few, length-replicate {A = ℕ} 32 0);
        marks_long = omega (arith, few s, length-replicate {A = ℕ} 8192 0);
        counted = record {
          once = λ j h. omega (arith, no_mark s j h);
          as_many = marked_none blank _ (no_mark s);
        };
      },
      c.requires.1,
    )

pub write_trail-requires : goal.write_trail-requires
write_trail-requires c =
    let a = c.args in
    let t = stored_tables a.stored in
    let s = c.requires.0 in
    let m = c.search_marks-leaves in
    let keeps = m.ensures.bests_and_marks (keeps_none t a.queries.now a.many (replicate 32 0) blank (no_mark s)) in
    let count_is : c.wide-count.result ≡ node_count t = c.wide-count.ensures ∙ c.field.ensures in
    let marks_long : length m.new.marks ≡ 8192 = m.auto.marks ∙ length-replicate {A = ℕ} 8192 0 in
    let room : length (marked_of m.new.marks (node_count t)) ≤ length (leaves (tree_in t)) =
    marked_few t a.queries.now a.many s m.new.bests m.new.marks m.result keeps in (
      omega (arith, count_is, few s),
      omega (arith, count_is, few s, marks_long),
      subst (λ (k : ℕ). length (marked_of m.new.marks k) ≤ length a.trail.now) (sym count_is) (omega (arith, room, c.requires.2)),
    )

pub returns : goal.returns
returns c =
    let a = c.args in
    let t = stored_tables a.stored in
    let s = c.requires.0 in
    let m = c.search_marks-leaves in
    let keeps = m.ensures.bests_and_marks (keeps_none t a.queries.now a.many (replicate 32 0) blank (no_mark s)) in
    let count_is : c.wide-count.result ≡ node_count t = c.wide-count.ensures ∙ c.field.ensures in
    let trail = c.write_trail.new.trail in
    let written : Written (marked_of m.new.marks (node_count t)) a.trail.now trail =
    subst (λ (k : ℕ). Written (marked_of m.new.marks k) a.trail.now trail) count_is c.write_trail.ensures in
    batch_found t a.queries.now a.many s m.new.bests m.new.marks m.result keeps m.ensures.counted a.work.now m.new.work a.trail.now trail written
    c.requires.2 m.ensures.zero
