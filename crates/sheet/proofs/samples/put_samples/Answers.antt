-- `sheet::samples::put_samples` meets its contract: after j turns the bytes of the first j samples are put.
use mathlib.Core.Path.{◌≡◌, refl, ap, ap₂, ◌∙◌}
use mathlib.Core.List.{List, flatten}
use Prim.Native.Nat.{ℕ, ◌+◌, ◌*◌}
use native.Mathlib.Omega.{arith}
use lib.IntN.{ℤ, pos}
use lib.ListN.{take, get_or}
use lib.Seq.{sets}
use mir.Syntax.{w32}
use mir.Facts.{to_z-of_z}
use Rattle.integer.proofs.Width.{of_mag, read}
use Rattle.segment.specs.Stored.{samples_of}
use Rattle.segment.proofs.Steps.{read_word}
use Rattle.segment.proofs.Stored.{samples_length}
use Rattle.dstree.specs.Sheet.{coded, coded_all}
use Rattle.sheet.specs.Formats.{format_by}
use Rattle.sheet.proofs.Coded.{codes_put}
use Rattle.sheet.proofs.samples.put_samples.Goals as goal

pub loop-j-init : goal.loop-j-init
unfolding flatten
loop-j-init c = (refl, refl)

pub loop-j-preserved : goal.loop-j-preserved
loop-j-preserved c =
    let at = c.loop-j in
    let a = c.args in
    let f = format_by a.format in
    let samples = samples_of a.words.now in
    let sample = c.sample_of.result in
    let value : read w32 sample ≡ get_or samples at.j (pos 0) =
    to_z-of_z (of_mag {w = w32} sample c.sample_of.type_inv) ∙ c.sample_of.ensures.value ∙ read_word a.words.now at.j (omega arith) in (
      c.put_sample.ensures
          ∙ ap₂ (λ (x : List ℕ) (k : ℕ). sets x (a.place + k * at.j) (coded f (read w32 sample))) at.invariant.0 c.sample_bytes-size.ensures.value
          ∙ ap (λ (z : ℤ). sets (sets a.bytes.now a.place (coded_all f (take at.j samples))) (a.place + f.sample_bytes * at.j) (coded f z)) value
          ∙ codes_put f a.bytes.now a.place samples at.j (omega (arith, samples_length a.words.now)),
      c.put_sample.auto.bytes ∙ at.invariant.1,
    )
