-- `prefixes::Summed::figures_on` meets its contract: what the prefix sums at the run's two ends differ by is the run's own (`Cut`).
use mathlib.Core.Path.{◌≡◌, refl, sym, subst, ◌∙◌}
use mathlib.Core.List.{List}
use Prim.Native.Nat.{ℕ, ◌+◌, ◌-◌, ◌^◌, ◌<◌}
use native.Mathlib.Omega.{arith}
use lib.IntN.{ℤ, pos, nat_abs, ◌-ℤ◌}
use lib.ListN.{length, get_or}
use mir.Syntax.{w64}
use mir.Val.{SFits}
use Rattle.integer.proofs.Width.{small, read, fits_difference, read_difference}
use Rattle.segment.specs.Stored.{samples_of}
use Rattle.segment.proofs.Stored.{samples_length}
use Rattle.dstree.specs.Figures.{run, sum_on, scatter_on}
use Rattle.tables.specs.Runs.{Inside}
use Rattle.prefixes.specs.Prefixes.{Prefixes}
use Rattle.prefixes.proofs.Cut as cut
use Rattle.prefixes.proofs.Summed.figures_on.Goals as goal

-- there are as many samples as words
inside : (words : List ℤ) {first last : ℕ} → Inside (length words) first last → Inside (length (samples_of words)) first last
inside words {first} {last} h = subst (λ (n : ℕ). Inside n first last) (sym (samples_length words)) h

-- the two prefix sums, and what is known of their difference
module _ (words : List ℤ) {sums : List ℤ} {squares : List ℕ} {first last : ℕ} (p : Prefixes (samples_of words) sums squares)
    (h : Inside (length words) first last) where
  high : SFits w64 (get_or sums last (pos 0))
  high = small (omega (arith, cut.prefix_size p last (inside words h).to_n))

  low : SFits w64 (get_or sums (first - 1) (pos 0))
  low = small (omega (arith, cut.prefix_size p (first - 1) (omega (arith, (inside words h).rises, (inside words h).to_n))))

  sizes : nat_abs (get_or sums last (pos 0)) + nat_abs (get_or sums (first - 1) (pos 0)) < 2 ^ 63
  sizes =
      let size = cut.prefix_size p in
      omega (arith, size last (inside words h).to_n, size (first - 1) (omega (arith, (inside words h).rises, (inside words h).to_n)))

  sum_read : read w64 (read w64 (get_or sums last (pos 0)) -ℤ read w64 (get_or sums (first - 1) (pos 0))) ≡ sum_on (run first last) (samples_of words)
  sum_read = read_difference high low sizes ∙ cut.sum_is p (inside words h)

pub overflow_sub-sum : goal.overflow_sub-sum
overflow_sub-sum c =
    let words = c.args.self.now.trace.now in
    let p = c.args.self.now.summed in
    fits_difference (high words p c.requires) (low words p c.requires) (sizes words p c.requires)

pub overflow_sub-total : goal.overflow_sub-total
overflow_sub-total c = omega (arith, cut.squares_are c.args.self.now.summed (inside c.args.self.now.trace.now c.requires))

pub scatter_from-requires : goal.scatter_from-requires
scatter_from-requires c =
    let i = inside c.args.self.now.trace.now c.requires in
    rw (sum_read c.args.self.now.trace.now c.args.self.now.summed c.requires) (cut.asked c.args.self.now.summed i)

pub returns : goal.returns
returns c =
    let p = c.args.self.now.summed in
    let i = inside c.args.self.now.trace.now c.requires in
    let is = sum_read c.args.self.now.trace.now p c.requires in
    let e : c.scatter_from.result ≡ scatter_on (run c.args.first c.args.last) (samples_of c.args.self.now.trace.now) =
    (rw is at c.scatter_from.ensures) ∙ cut.answered p i in
    record { sum = rw is refl; scatter = e; size = rw is (cut.sum_size p i, rw e (cut.scatter_size p i)) }
