-- `sheet_writing::filling::fill_block` meets its contract: the part that is lent is the block, and what lies before and behind it comes
-- back as it was.
use mathlib.Core.Path.{◌≡◌, ap, ◌∙◌}
use mathlib.Core.List.{List}
use Prim.Native.Nat.{ℕ, ◌+◌, ◌*◌, ◌≤◌}
use native.Mathlib.Omega.{arith}
use lib.IntN.{ℤ}
use lib.ListN.{take, length-take, length-drop}
use borrow.Rule.Slice.PartMut.{Post-is}
use Rattle.segment.specs.Stored.{samples_of}
use Rattle.dstree.specs.Sheet.{part, Format, block_size, block, coded_all}
use Rattle.dstree.specs.SheetWidths.{format_by}
use Rattle.tables.proofs.Parts.{part_of_words}
use Rattle.sheet.specs.Formats.{says_wide}
use Rattle.sheet_writing.specs.Filled.{with_block}
use Rattle.sheet_writing.proofs.Runs.{lent_run}
use borrow.Author.Rules.{rules}
use Rattle.sheet_writing.proofs.filling.fill_block.Goals as goal

-- as many samples as a block carries
module _ (b : goal.After-block_samples-each) where
  abbrev start : goal.After-block_samples-each
  start = b

  abbrev f : Format
  f = format_by (says_wide start.args.format)

  abbrev each : ℕ
  each = b.block_samples-each.result

  from_is : start.args.i * each ≡ start.args.i * f.samples_per_block
  from_is = ap (λ (k : ℕ). start.args.i * k) b.block_samples-each.ensures.value

  inside : start.args.i * each ≤ start.args.total
  inside = omega (arith, from_is, start.requires.1)

-- as many samples as a block carries
module _ (b : goal.After-write_samples-arg-1) where
  abbrev start_2 : goal.After-write_samples-arg-1
  start_2 = b

  abbrev f_2 : Format
  f_2 = format_by (says_wide start_2.args.format)

  abbrev each_2 : ℕ
  each_2 = b.block_samples-each.result

  from_is_2 : start_2.args.i * each_2 ≡ start_2.args.i * f_2.samples_per_block
  from_is_2 = ap (λ (k : ℕ). start_2.args.i * k) b.block_samples-each.ensures.value

  inside_2 : start_2.args.i * each_2 ≤ start_2.args.total
  inside_2 = omega (arith, from_is_2, start_2.requires.1)

-- as many samples as a block carries
module _ (b : goal.After-write_samples-arg-2-1) where
  abbrev start_3 : goal.After-write_samples-arg-2-1
  start_3 = b

-- as many samples as a block carries
module _ (b : goal.After-slice_known-2-1) where
  abbrev start_4 : goal.After-slice_known-2-1
  start_4 = b

  abbrev f_4 : Format
  f_4 = format_by (says_wide start_4.args.format)

  abbrev each_4 : ℕ
  each_4 = b.block_samples-each.result

pub overflow_mul-from : goal.overflow_mul-from
overflow_mul-from c = omega (arith, inside c)

pub run_end-to-requires : goal.run_end-to-requires
run_end-to-requires c = inside c

pub offset_bounds-samples-from : goal.offset_bounds-samples-from
offset_bounds-samples-from c = omega (arith, inside_2 c)

pub write_samples-requires : goal.write_samples-requires
write_samples-requires c =
    let a = (start_3 c).args in (
      search rules,
      simp (length-take, length-drop) (omega (arith, c.run_end-to.ensures.2, c.block_samples-each.ensures.value)),
    )

pub returns : goal.returns
returns c =
    let a = (start_4 c).args in
    let end = c.run_end-to in
    let sheet = a.sheet.now in
    let words = a.samples.now in
    let k = (f_4 c).sample_kind in
    let at = block_size * (1 + a.i) in
    let run =
    lent_run (each_4 c) words (a.i * each_4 c) end.result a.total
    end.ensures.0 end.ensures.1 end.ensures.2 end.ensures.3 (start_4 c).requires.2
    ∙ ap (λ (p : ℕ). part (a.i * p) p (take a.total words)) c.block_samples-each.ensures.value in
    let carried =
    ap samples_of run ∙ part_of_words (f_4 c).samples_per_block (a.i * (f_4 c).samples_per_block) (take a.total words) in
    let written = c.write_samples.ensures ∙ ap (λ (xs : List ℤ). block k (1 + a.i) (coded_all (f_4 c) xs)) carried in
    rw (Post-is at (at + block_size) sheet (omega arith)) (ap (with_block sheet (1 + a.i)) written)
