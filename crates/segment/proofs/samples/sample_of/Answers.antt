-- `segment::samples::sample_of` meets its contract: a word is a number of 32 bits, of which a shift leaves the upper 20.
use mathlib.Core.Path.{◌≡◌, sym, ap, subst, ◌∙◌}
use Prim.Native.Nat.{◌<◌}
use native.Mathlib.Omega.{arith}
use lib.IntN.{ℤ}
use lib.Signed.{mag, shr_z}
use mir.Syntax.{w32}
use mir.Facts.{to_z-of_z}
use Rattle.integer.proofs.Width.{of_mag, read}
use Rattle.segment.specs.Limits.{sample_most}
use Rattle.segment.specs.Stored.{word_scale, sample_of}
use Rattle.segment.proofs.Stored.{sample_within, shifted}
use Rattle.segment.proofs.samples.sample_of.Goals as goal

pub returns : goal.returns
returns c =
    let z = c.args.word in
    let small : mag (sample_of z) < sample_most = sample_within z in
    let e : read w32 (shr_z (read w32 z) word_scale) ≡ sample_of z =
    ap (λ (x : ℤ). read w32 (shr_z x word_scale)) (to_z-of_z c.ranges.word) ∙ ap (read w32) (shifted z c.ranges.word.sfits)
    ∙ to_z-of_z (of_mag {w = w32} (sample_of z) (omega arith)) in record { value = e; size = subst (λ (x : ℤ). mag x < sample_most) (sym e) small }
