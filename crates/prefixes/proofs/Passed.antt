-- Prefix sums that are filled in place by place: after i turns the places 0 to i hold those of the samples that the words stand for.
use mathlib.Core.Path.{◌≡◌, sym, ap, ◌∙◌}
use mathlib.Core.List.{List}
use Prim.Native.Nat.{ℕ, ◌+◌, ◌≤◌, ◌<◌}
use native.Mathlib.Omega.{arith}
use lib.IntN.{ℤ, pos, nat_abs, ◌+ℤ◌}
use lib.ListN.{length, get_or, take, set, length-set}
use lib.Seq.{get_or-set_same, get_or-set_other, length-take-le}
use borrow.Author.Count.{below_more}
use Rattle.integer.specs.Words.{square}
use Rattle.segment.specs.Figures.{sum, sum_of_squares}
use Rattle.segment.specs.Limits.{SamplesWithin, sum_limit, sum_most, squares_most}
use Rattle.segment.specs.Stored.{samples_of}
use Rattle.segment.proofs.Sums.{sum_more, squares_more}
use Rattle.segment.proofs.Stored.{samples_within, samples_length}
use Rattle.segment.proofs.Limits.{within_take, sum_limit_lem, squares_limit}
use Rattle.dstree.specs.Measures.{sample_limit}
use Rattle.prefixes.specs.Prefixes.{Prefixes}

pub record Passed (words sums : List ℤ) (squares : List ℕ) (i : ℕ) : Type 0 where
  pub inside : i ≤ length words
  pub sum_places : length sums ≡ 257
  pub square_places : length squares ≡ 257
  pub sums_are : (j : ℕ) → j < i + 1 → get_or sums j (pos 0) ≡ sum (take j (samples_of words))
  pub squares_are : (j : ℕ) → j < i + 1 → get_or squares j 0 ≡ sum_of_squares (take j (samples_of words))

pub passed_none : (words sums : List ℤ) (squares : List ℕ) → length sums ≡ 257 → length squares ≡ 257
    → Passed words (set sums 0 (pos 0)) (set squares 0 0) 0
unfolding sum sum_of_squares
passed_none words sums squares a b =
    record {
      inside = omega arith;
      sum_places = length-set sums 0 (pos 0) ∙ a;
      square_places = length-set squares 0 0 ∙ b;
      sums_are = below_more _ 0 (λ j h. absurd (omega arith)) (get_or-set_same sums 0 (pos 0) (pos 0) (omega arith));
      squares_are = below_more _ 0 (λ j h. absurd (omega arith)) (get_or-set_same squares 0 0 0 (omega arith));
    }

module _ {words sums : List ℤ} {squares : List ℕ} {i : ℕ} (p : Passed words sums squares i) where
  abbrev trace : List ℤ
  trace = samples_of words

  within : SamplesWithin sample_limit trace
  unfolding sample_limit
  within = samples_within words

  first_many : length (take i trace) ≡ i
  first_many = length-take-le i trace (rw (samples_length words) p.inside)

  pub sum_size : nat_abs (get_or sums i (pos 0)) ≤ sum_most i
  unfolding sample_limit sum_limit
  sum_size =
      rw (p.sums_are i (omega arith))
      (omega (arith, sum_limit_lem sample_limit (take i trace) (within_take i trace within), first_many))

  pub squares_size : get_or squares i 0 ≤ squares_most i
  unfolding sample_limit
  squares_size =
      rw (p.squares_are i (omega arith))
      (omega (arith, squares_limit sample_limit (take i trace) (within_take i trace within), first_many))

  -- one word more
  pub passed_more : length words ≤ 256 → i < length words → (s : ℤ) (q : ℕ)
      → s ≡ get_or sums i (pos 0) +ℤ get_or trace i (pos 0) → q ≡ get_or squares i 0 + square (get_or trace i (pos 0))
      → Passed words (set sums (i + 1) s) (set squares (i + 1) q) (i + 1)
  passed_more few l s q es eq =
      let here : i < length trace = rw (samples_length words) l in
      let e : s ≡ sum (take (i + 1) trace) =
      es ∙ (ap (λ (z : ℤ). z +ℤ get_or trace i (pos 0)) (p.sums_are i (omega arith)) ∙ sym (sum_more trace i here)) in
      let f : q ≡ sum_of_squares (take (i + 1) trace) =
      eq ∙ (ap (λ (k : ℕ). k + square (get_or trace i (pos 0))) (p.squares_are i (omega arith)) ∙ sym (squares_more trace i here)) in
      record {
        inside = omega arith;
        sum_places = length-set sums (i + 1) s ∙ p.sum_places;
        square_places = length-set squares (i + 1) q ∙ p.square_places;
        sums_are = below_more _ (i + 1)
            (λ j h. get_or-set_other sums (i + 1) j s (pos 0) (λ x. omega arith) ∙ p.sums_are j h)
            (get_or-set_same sums (i + 1) s (pos 0) (omega (arith, p.sum_places)) ∙ e);
        squares_are = below_more _ (i + 1)
            (λ j h. get_or-set_other squares (i + 1) j q 0 (λ x. omega arith) ∙ p.squares_are j h)
            (get_or-set_same squares (i + 1) q 0 (omega (arith, p.square_places)) ∙ f);
      }

  pub passed_all : length words ≤ 256 → length words ≤ i → Prefixes trace sums squares
  passed_all few h =
      record {
        sum_places = p.sum_places;
        square_places = p.square_places;
        few = rw (samples_length words) few;
        within = within;
        sums_are = λ j l. p.sums_are j (omega (arith, samples_length words));
        squares_are = λ j l. p.squares_are j (omega (arith, samples_length words));
      }
