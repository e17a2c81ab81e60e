-- `recording::writing::write_recording` meets its contract: the header, and the samples behind it.
use mathlib.Core.Path.{sym, ap, ◌∙◌}
use mathlib.Core.List.{List}
use Prim.Native.Nat.{ℕ, ◌*◌}
use native.Mathlib.Omega.{arith}
use lib.Seq.{sets}
use Rattle.segment.specs.Stored.{samples_of}
use Rattle.segment.proofs.Stored.{samples_length}
use Rattle.dstree.specs.Sheet.{narrow, coded_all}
use Rattle.dstree.specs.Recording.{header, header_size, field_bytes}
use Rattle.recording.proofs.Put.{samples_put}
use Rattle.recording.proofs.writing.write_recording.Goals as goal

pub put_header-requires : goal.put_header-requires
put_header-requires c = (omega (arith, c.requires.2), c.requires.0, omega (arith, c.requires.1))

pub returns : goal.returns
returns c =
    let words = c.args.trace.now in
    let samples = samples_of words in
    c.put_samples.ensures
    ∙ ap (λ (l : List ℕ). sets l header_size (coded_all narrow samples)) c.put_header.ensures
    ∙ ap (λ (k : ℕ). sets (sets c.args.buffer.now 0 (field_bytes (header c.args.rate (2 * k)))) header_size (coded_all narrow samples))
    (sym (samples_length words))
    ∙ samples_put c.args.rate samples c.args.buffer.now (omega (arith, c.requires.2, samples_length words))
