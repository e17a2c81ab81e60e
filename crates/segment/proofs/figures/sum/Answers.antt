-- `segment::figures::sum` meets its contract: the total is the sum of the samples passed, which 32 bits hold.
use mathlib.Core.Path.{◌≡◌, refl, sym, ap, ap₂, subst, ◌∙◌}
use mathlib.Core.List.{List}
use Prim.Native.Nat.{ℕ, ◌+◌, ◌*◌, ◌≤◌, ◌<◌}
use native.Mathlib.Omega.{arith}
use lib.ListN.{length, take, get_or, length-map}
use lib.Seq.{length-take-le}
use lib.IntN.{ℤ, pos, nat_abs, ◌+ℤ◌}
use lib.Signed.{mag}
use mir.Syntax.{w32, w64}
use mir.Val.{SFits, to_z}
use mir.Facts.{to_z-of_z, sfits_widen}
use Rattle.integer.proofs.Width.{of_mag, small, read}
use Rattle.segment.specs.Figures.{sum}
use Rattle.segment.specs.Limits.{sample_most, SamplesWithin, sum_limit}
use Rattle.segment.proofs.Sums.{sum_more}
use Rattle.segment.proofs.Limits.{within_more, sum_limit_lem}
use Rattle.segment.specs.Stored.{sample_of, samples_of}
use Rattle.segment.proofs.Steps.{read_word}
use Rattle.segment.proofs.Stored.{all_samples}
use Rattle.segment.proofs.figures.sum.Invariants.{Passed}
use Rattle.segment.proofs.figures.sum.Goals as goal

passed_size : (words : List ℤ) (total : ℤ) (i : ℕ) → Passed words total i → nat_abs (sum (take i (samples_of words))) ≤ sample_most * i
unfolding sum_limit
passed_size words total i p =
    let long : i ≤ length (samples_of words) = rw (length-map words sample_of) p.0 in
    omega (arith, sum_limit_lem sample_most (take i (samples_of words)) p.2, length-take-le i (samples_of words) long)

module _ (words : List ℤ) (few : length words ≤ 256) where
  passed_fits : (total : ℤ) (i : ℕ) → Passed words total i → SFits w32 (sum (take i (samples_of words)))
  passed_fits total i p = small (omega (arith, passed_size words total i p))

  widened : (total : ℤ) (i : ℕ) → Passed words total i → read w64 total ≡ sum (take i (samples_of words))
  widened total i p = ap (read w64) p.1 ∙ to_z-of_z (sfits_widen {w' = w64} tt (passed_fits total i p))

  all : (total : ℤ) (i : ℕ) → Passed words total i → length words ≤ i
      → (read w64 total ≡ sum (samples_of words)) × (nat_abs (read w64 total) ≤ sample_most * length words)
  all total i p h =
      (widened total i p ∙ ap sum (all_samples i words h), rw (widened total i p) (omega (arith, passed_size words total i p)))

  -- one sample more
  module _ (total : ℤ) (i : ℕ) (p : Passed words total i) (l : i < length words) (v : ℤ) (e : v ≡ get_or (samples_of words) i (pos 0))
      (m : mag v < sample_most) where
    next : total +ℤ v ≡ sum (take (i + 1) (samples_of words))
    next = ap₂ ◌+ℤ◌ p.1 e ∙ sym (sum_more (samples_of words) i (rw (length-map words sample_of) l))

    within : SamplesWithin sample_most (take (i + 1) (samples_of words))
    within = within_more (samples_of words) i p.2 (subst (λ (z : ℤ). mag z < sample_most) e m)

    added_fits : SFits w32 (total +ℤ v)
    added_fits = rw next (passed_fits (sum (take (i + 1) (samples_of words))) (i + 1) (omega arith, refl, within))

    more : Passed words (read w32 (total +ℤ v)) (i + 1)
    more = (omega arith, to_z-of_z added_fits ∙ next, within)

little : (c : goal.After-sample_of-total) → mag (read w32 c.sample_of-total.result) < sample_most
little c = rw (to_z-of_z (of_mag {w = w32} c.sample_of-total.result c.sample_of-total.type_inv)) c.sample_of-total.ensures.size

-- what is added
value : (c : goal.After-sample_of-total)
    → read w32 c.sample_of-total.result
    ≡ get_or (samples_of c.args.samples.now) c.loop-word.word-index (pos 0)
value c =
    let l = c.loop-word in
    to_z-of_z (of_mag {w = w32} c.sample_of-total.result c.sample_of-total.type_inv) ∙ c.sample_of-total.ensures.value
    ∙ read_word c.args.samples.now l.word-index c.sample_of-arg-1.given

pub loop-word-init : goal.loop-word-init
unfolding sum
loop-word-init c = (omega arith, refl, λ i h. omega arith)

pub overflow_add-total : goal.overflow_add-total
overflow_add-total c =
    let l = c.loop-word in
    added_fits c.args.samples.now c.requires (to_z w32 l.total-bits) l.word-index l.invariant c.loop-word-test.true
    (read w32 c.sample_of-total.result) (value c) (little c)

pub loop-word-preserved : goal.loop-word-preserved
loop-word-preserved c =
    let l = c.loop-word in
    more c.args.samples.now c.requires (to_z w32 l.total-bits) l.word-index l.invariant c.loop-word-test.true
    (read w32 c.sample_of-total.result) (value c) (little c)

pub returns : goal.returns
returns c =
    let l = c.loop-word in
    let r = all c.args.samples.now c.requires (to_z w32 l.total-bits) l.word-index l.invariant c.loop-word-test.false in
    rw c.from.ensures (record { value = r.0; size = r.1 })
