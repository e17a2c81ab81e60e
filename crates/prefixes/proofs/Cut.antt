-- The prefix sums at a run's two ends differ by the run's own sums. The figures that follow are those of the definition, with its sizes.
use mathlib.Core.Path.{◌≡◌, ap, ap₂, subst, ◌∙◌}
use mathlib.Core.List.{List, [], ◌∷◌, ◌++◌}
use Prim.Native.Nat.{ℕ, suc, ◌+◌, ◌*◌, ◌-◌, ◌≤◌}
use native.Mathlib.Nat.{mul-le-mul}
use native.Mathlib.Omega.{arith}
use lib.IntN.{ℤ, pos, nat_abs, ◌+ℤ◌, ◌-ℤ◌}
use lib.ListN.{length, get_or, take, drop, length-drop}
use lib.Seq.{take-add, length-take-le}
use Rattle.integer.specs.Words.{square}
use Rattle.integer.proofs.Ring.{ring}
use Rattle.integer.proofs.Facts.{reading}
use Rattle.segment.specs.Figures.{sum, sum_of_squares, scatter}
use Rattle.segment.specs.Limits.{SamplesWithin, sum_limit, scatter_limit, sum_most, scatter_most, sum_room, squares_room}
use Rattle.segment.proofs.Sums.{sum_append, squares_append}
use Rattle.segment.proofs.Scatter.{scatter_law}
use Rattle.segment.proofs.Limits.{within_take, within_drop, sum_limit_lem, squares_limit, scatter_limit_lem}
use Rattle.dstree.specs.Measures.{Trace, sample_limit, most_samples}
use Rattle.dstree.specs.Figures.{run, width, samples_on, sum_on, scatter_on}
use Rattle.tables.specs.Runs.{Inside}
use Rattle.prefixes.specs.Prefixes.{Prefixes}

-- ---- sizes, by those of the widest run
pub sum_most_lem : {w v : ℕ} → w ≤ most_samples → v ≤ sum_limit sample_limit w → v ≤ sum_most most_samples
unfolding sample_limit sum_limit
sum_most_lem h l = omega arith

pub scatter_most_lem : {w v : ℕ} → w ≤ most_samples → v ≤ scatter_limit sample_limit w → v ≤ scatter_most most_samples
unfolding sample_limit scatter_limit
scatter_most_lem h l = omega (arith, mul-le-mul h h)

-- ---- the sums at a run's two ends
less_first : (a b : ℤ) → a +ℤ b -ℤ a ≡ b
less_first a b = ring (a ∷ b ∷ []) (search reading depth 30) tt

module _ {trace : Trace} {sums : List ℤ} {squares : List ℕ} (p : Prefixes trace sums squares) where
  -- the sums of the first j samples
  abbrev sum_to : ℕ → ℤ
  sum_to j = get_or sums j (pos 0)

  abbrev squares_to : ℕ → ℕ
  squares_to j = get_or squares j 0

  pub prefix_size : (j : ℕ) → j ≤ length trace → nat_abs (sum_to j) ≤ sum_most most_samples
  prefix_size j h =
      let few : length (take j trace) ≤ most_samples = omega (arith, length-take-le j trace h, p.few) in
      rw (p.sums_are j h) (sum_most_lem few (sum_limit_lem sample_limit (take j trace) (within_take j trace p.within)))

  module _ {first last : ℕ} (i : Inside (length trace) first last) where
    abbrev before : ℕ
    before = first - 1

    abbrev there : List ℤ
    there = samples_on (run first last) trace

    before_in : before ≤ length trace
    before_in = omega (arith, i.rises, i.to_n)

    cut : take last trace ≡ take before trace ++ there
    unfolding samples_on
    cut =
        let e : last ≡ before + (suc last - first) = omega (arith, i.from_1, i.rises) in
        ap (λ (k : ℕ). take k trace) e ∙ take-add before (suc last - first) trace

    there_length : length there ≡ width (run first last)
    unfolding samples_on
    there_length =
        let room : suc last - first ≤ length (drop before trace) = simp length-drop (omega (arith, i.from_1, i.rises, i.to_n)) in
        length-take-le (suc last - first) (drop before trace) room

    there_within : SamplesWithin sample_limit there
    unfolding samples_on
    there_within = within_take (suc last - first) (drop before trace) (within_drop before trace p.within)

    pub sum_is : sum_to last -ℤ sum_to before ≡ sum_on (run first last) trace
    sum_is =
        let e : sum_to last ≡ sum (take before trace) +ℤ sum there =
        p.sums_are last i.to_n ∙ (ap sum cut ∙ sum_append (take before trace) there) in
        ap₂ ◌-ℤ◌ e (p.sums_are before before_in) ∙ less_first (sum (take before trace)) (sum there)

    pub squares_are : squares_to last ≡ squares_to before + sum_of_squares there
    squares_are =
        let e : squares_to last ≡ sum_of_squares (take before trace) + sum_of_squares there =
        p.squares_are last i.to_n ∙ (ap sum_of_squares cut ∙ squares_append (take before trace) there) in
        omega (arith, e, p.squares_are before before_in)

    pub sum_size : nat_abs (sum_on (run first last) trace) ≤ sum_limit sample_limit (width (run first last))
    sum_size = subst (λ (w : ℕ). nat_abs (sum there) ≤ sum_limit sample_limit w) there_length (sum_limit_lem sample_limit there there_within)

    pub scatter_size : scatter_on (run first last) trace ≤ scatter_limit sample_limit (width (run first last))
    scatter_size = subst (λ (w : ℕ). scatter there ≤ scatter_limit sample_limit w) there_length (scatter_limit_lem sample_limit there there_within)

    -- in the code's terms: its width and its sum of squares
    wide : last - before ≡ length there
    wide = omega (arith, there_length, i.from_1, i.rises)

    total : squares_to last - squares_to before ≡ sum_of_squares there
    total = omega (arith, squares_are)

    pub asked : (last - before ≤ most_samples) × (nat_abs (sum_on (run first last) trace) ≤ sum_room) × (squares_to last - squares_to before ≤ squares_room)
        × (square (sum_on (run first last) trace) ≤ (last - before) * (squares_to last - squares_to before))
    unfolding sample_limit
    asked =
        let few : width (run first last) ≤ most_samples = omega (arith, i.from_1, i.to_n, p.few) in
        rw (wide, total) (
          omega (arith, there_length),
          omega (arith, sum_most_lem few sum_size),
          omega (arith, squares_limit sample_limit there there_within, there_length),
          omega (arith, scatter_law there),
        )

    pub answered : (last - before) * (squares_to last - squares_to before) - square (sum_on (run first last) trace)
        ≡ scatter_on (run first last) trace
    answered = rw (wide, total) (omega (arith, scatter_law there))
