-- The square of how far a word's sample is from a range meets its contract: that of a number of 20 bits has 40.
use mathlib.Core.Path.{◌≡◌, ap, ◌∙◌}
use Prim.Native.Nat.{ℕ, ◌*◌}
use native.Mathlib.Omega.{arith}
use mir.Syntax.{w32}
use mir.Facts.{to_z-of_z}
use Rattle.integer.proofs.Width.{of_mag, read}
use Rattle.segment.specs.Limits.{sample_most}
use Rattle.segment.specs.Stored.{sample_of}
use Rattle.segment.specs.Terms.{sum_gap}
use Rattle.segment.proofs.Steps.{small_square}
use Rattle.segment.proofs.Stored.{sample_within}
use Rattle.segment.proofs.ClippedSteps.{gap_most}
use Rattle.segment.proofs.ranges.LeastReach.square.Goals as goal

pub returns : goal.returns
returns c =
    let y = c.sample_of in
    let e : read w32 y.result ≡ sample_of c.args.word =
    to_z-of_z (of_mag {w = w32} y.result y.type_inv) ∙ y.ensures.value ∙ ap sample_of (to_z-of_z c.ranges.word) in
    let g : c.from-g.result ≡ sum_gap (sample_of c.args.word) c.args.low c.args.high =
    c.from-g.ensures ∙ c.gap.ensures ∙ rw (e, to_z-of_z c.ranges.low, to_z-of_z c.ranges.high) in
    let most = gap_most sample_most (sample_of c.args.word) c.args.low c.args.high (sample_within c.args.word) c.requires.0 c.requires.1 in
    record { value = ap (λ (d : ℕ). d * d) g; size = small_square c.from-g.result (omega (arith, g, most)) }
