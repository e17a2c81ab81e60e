-- `sheet::blocks::write_samples` meets its contract: number and kind, the samples behind them, the check.
use mathlib.Core.Path.{ap, ◌∙◌}
use mathlib.Core.List.{List}
use Prim.Native.Nat.{ℕ, ◌*◌, ◌≤◌}
use native.Mathlib.Omega.{arith}
use native.Mathlib.Nat.{mul_comm, mul-le-mul_left}
use lib.ListN.{length, take}
use lib.Seq.{sets}
use Rattle.segment.specs.Stored.{samples_of}
use Rattle.segment.proofs.Stored.{samples_length}
use Rattle.dstree.specs.Sheet.{checked_size, carried_size, Format, sealed, coded_all}
use Rattle.dstree.specs.SheetWidths.{format_by}
use Rattle.dstree.proofs.SheetFields.{codes_length}
use Rattle.dstree.proofs.SheetWidths.{format_sound}
use Rattle.sheet.specs.Formats.{says_wide}
use Rattle.sheet.proofs.Laid.{block_is}
use Rattle.sheet.proofs.blocks.write_samples.Goals as goal

-- the bytes of so many samples have room in a block
module _ (s : goal.After-put_samples-arg-1) where
  abbrev f : Format
  f = format_by (says_wide s.args.format)

  room : f.sample_bytes * length s.args.words.now ≤ carried_size
  room = omega (arith, mul-le-mul_left f.sample_bytes s.requires.1, (format_sound (says_wide s.args.format)).room)

-- the bytes of so many samples have room in a block
module _ (s : goal.After-slice_known-4-1) where
  abbrev f_2 : Format
  f_2 = format_by (says_wide s.args.format)

  room_2 : f_2.sample_bytes * length s.args.words.now ≤ carried_size
  room_2 = omega (arith, mul-le-mul_left f_2.sample_bytes s.requires.1, (format_sound (says_wide s.args.format)).room)

pub put_samples-requires : goal.put_samples-requires
put_samples-requires c =
    omega (arith, room c, c.begin.auto.part, c.requires.0)

pub returns : goal.returns
returns c =
    let a = c.args in
    let carried = coded_all (f_2 c) (samples_of a.words.now) in
    let put = c.put_samples.ensures ∙ ap (λ (l : List ℕ). sets l 4 carried) c.begin.ensures in
    c.seal.ensures
    ∙ ap (λ (l : List ℕ). sealed (take checked_size l)) put
    ∙ block_is (f_2 c).sample_kind a.number carried
    (omega (
      arith,
      codes_length (f_2 c) (samples_of a.words.now) ∙ ap (λ (k : ℕ). k * (f_2 c).sample_bytes) (samples_length a.words.now)
          ∙ mul_comm (length a.words.now) (f_2 c).sample_bytes,
      room_2 c,
    ))
