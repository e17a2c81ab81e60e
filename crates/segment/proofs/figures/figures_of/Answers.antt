-- `segment::figures::figures_of` meets its contract: the sum's square is at most the length times the sum of squares (`Scatter`), which is
-- what `scatter_from` asks, and the scatter's size follows from that of the sum of squares.
use mathlib.Core.Path.{◌≡◌, sym, ap, ap₂, ◌∙◌}
use Prim.Native.Nat.{ℕ, ◌*◌, ◌-◌, ◌≤◌}
use native.Mathlib.Nat.{mul-le-mul_left}
use native.Mathlib.Omega.{arith}
use lib.ListN.{length, length-map}
use lib.IntN.{ℤ, nat_abs}
use mir.Syntax.{w64}
use mir.Facts.{to_z-of_z}
use Rattle.integer.specs.Words.{square}
use Rattle.integer.proofs.Width.{of_mag, read}
use Rattle.segment.specs.Limits.{sample_most}
use Rattle.segment.specs.Figures.{sum, sum_of_squares, scatter}
use Rattle.segment.specs.Stored.{sample_of, samples_of}
use Rattle.segment.proofs.Scatter.{scatter_law}
use Rattle.segment.proofs.figures.figures_of.Goals as goal

sum_is : (c : goal.After-sum_of_squares-squares) → read w64 c.sum-sum.result ≡ sum (samples_of c.args.samples.now)
sum_is c = to_z-of_z (of_mag {w = w64} c.sum-sum.result c.sum-sum.type_inv) ∙ c.sum-sum.ensures.value

square_most : (c : goal.After-sum_of_squares-squares)
    → square (read w64 c.sum-sum.result) ≤ length c.args.samples.now * c.sum_of_squares-squares.result
square_most c =
    let words = c.args.samples.now in
    rw (sum_is c, c.sum_of_squares-squares.ensures.value) (omega (arith, rw (length-map words sample_of) at (scatter_law (samples_of words))))

sum_size : (c : goal.After-sum_of_squares-squares) → nat_abs (read w64 c.sum-sum.result) ≤ sample_most * length c.args.samples.now
sum_size c = rw (to_z-of_z (of_mag {w = w64} c.sum-sum.result c.sum-sum.type_inv)) c.sum-sum.ensures.size

sum_is_2 : (c : goal.After-scatter_from) → read w64 c.sum-sum.result ≡ sum (samples_of c.args.samples.now)
sum_is_2 c = to_z-of_z (of_mag {w = w64} c.sum-sum.result c.sum-sum.type_inv) ∙ c.sum-sum.ensures.value

sum_size_2 : (c : goal.After-scatter_from) → nat_abs (read w64 c.sum-sum.result) ≤ sample_most * length c.args.samples.now
sum_size_2 c = rw (to_z-of_z (of_mag {w = w64} c.sum-sum.result c.sum-sum.type_inv)) c.sum-sum.ensures.size

pub scatter_from-requires : goal.scatter_from-requires
scatter_from-requires c =
    (omega arith, omega (arith, sum_size c), omega (arith, c.sum_of_squares-squares.ensures.size), square_most c)

pub returns : goal.returns
unfolding scatter
returns c =
    let s = c in
    let words = s.args.samples.now in
    let w : ℕ = length s.args.samples.now in record {
      sum = (sum_is_2 s, sum_size_2 s);
      scatter = c.scatter_from.ensures ∙ ap₂ (λ (q : ℕ) (s : ℤ). w * q - square s) c.sum_of_squares-squares.ensures.value (sum_is_2 s)
          ∙ ap (λ (k : ℕ). k * sum_of_squares (samples_of words) - square (sum (samples_of words))) (sym (length-map words sample_of));
      size = omega (arith, c.scatter_from.ensures, mul-le-mul_left w c.sum_of_squares-squares.ensures.size);
    }
