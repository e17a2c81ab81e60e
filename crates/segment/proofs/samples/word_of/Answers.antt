-- `segment::samples::word_of` meets its contract: a sample of 20 bits times 4,096 is a number of 32.
use mathlib.Core.Path.{◌≡◌, ap, ◌∙◌}
use Prim.Native.Nat.{◌<◌}
use lib.IntN.{ℤ, pos, ◌*ℤ◌}
use lib.Signed.{mag}
use mir.Syntax.{w32}
use mir.Val.{SFits}
use mir.Facts.{to_z-of_z}
use Rattle.integer.proofs.Width.{of_mag, read}
use Rattle.segment.specs.Limits.{sample_most}
use Rattle.segment.specs.Stored.{word_scale, sample_of, word_of}
use Rattle.segment.proofs.Stored.{word_fits, sample_back}
use Rattle.segment.proofs.samples.word_of.Goals as goal

module _ (z : ℤ) (f : SFits w32 z) (h : mag z < sample_most) where
  fits : SFits w32 (read w32 z *ℤ pos word_scale)
  unfolding word_of
  fits = rw (to_z-of_z f) (of_mag {w = w32} (word_of z) (word_fits z h))

  word : read w32 (read w32 z *ℤ pos word_scale) ≡ word_of z
  unfolding word_of
  word = to_z-of_z fits ∙ ap (λ (x : ℤ). x *ℤ pos word_scale) (to_z-of_z f)

pub overflow_mul-result : goal.overflow_mul-result
overflow_mul-result c = fits c.args.sample c.ranges.sample c.requires

pub returns : goal.returns
returns c =
    let e = word c.args.sample c.ranges.sample c.requires in record { value = e; back = ap sample_of e ∙ sample_back c.args.sample c.requires }
