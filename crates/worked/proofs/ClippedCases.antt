-- Document 02, §13: small libraries, lows and highs, with the numbers that another implementation of documents 01 and 02 lists; the
-- definitions list the same, by computation. Among them are samples at both ends of 20 bits, ranges of one number, equal traces, and traces
-- that are left out.
use Prim.Native.Nat.{ℕ}
use mathlib.Core.Path.{◌≡◌, refl}
use mathlib.Core.List.{List, [], ◌∷◌, map}
use Rattle.dstree.specs.Measures.{Trace}
use Rattle.dstree.specs.Clipped.{possible_matches}
use Rattle.dstree.proofs.Notation.{+, −}
use Rattle.dstree.proofs.Everything.{everything}

pub record ClippedCase : Type 0 where
  pub traces : List Trace
  pub lows : Trace
  pub highs : Trace
  pub list : List ℕ

abbrev clipped_cases : List ClippedCase
clipped_cases =
    record {
      traces = (+ 94 ∷ + 94 ∷ + 94 ∷ []) ∷ (+ 74 ∷ + 74 ∷ + 74 ∷ []) ∷ (+ 84 ∷ + 84 ∷ + 84 ∷ []) ∷ (+ 94 ∷ + 94 ∷ + 94 ∷ []) ∷
          (+ 84 ∷ + 84 ∷ + 84 ∷ []) ∷ [];
      lows = + 84 ∷ + 84 ∷ + 84 ∷ [];
      highs = + 84 ∷ + 84 ∷ + 84 ∷ [];
      list = 2 ∷ 4 ∷ [];
    }
    ∷ record {
      traces = (+ 94 ∷ + 94 ∷ + 94 ∷ []) ∷ (+ 74 ∷ + 74 ∷ + 74 ∷ []) ∷ (+ 84 ∷ + 84 ∷ + 84 ∷ []) ∷ (+ 94 ∷ + 94 ∷ + 94 ∷ []) ∷
          (+ 84 ∷ + 84 ∷ + 84 ∷ []) ∷ [];
      lows = + 84 ∷ + 84 ∷ + 83 ∷ [];
      highs = + 85 ∷ + 84 ∷ + 84 ∷ [];
      list = 2 ∷ 4 ∷ [];
    }
    ∷ record {
      traces = (− 524288 ∷ − 524288 ∷ + 524287 ∷ []) ∷ (− 524288 ∷ − 524288 ∷ − 524288 ∷ []) ∷ (− 524288 ∷ + 524287 ∷ + 524287 ∷
          []) ∷ [];
      lows = − 524288 ∷ − 5 ∷ + 524284 ∷ [];
      highs = − 524279 ∷ + 2 ∷ + 524287 ∷ [];
      list = 0 ∷ 2 ∷ [];
    }
    ∷ record {
      traces = (− 524288 ∷ − 524288 ∷ + 524287 ∷ []) ∷ (− 524288 ∷ − 524288 ∷ − 524288 ∷ []) ∷ (− 524288 ∷ + 524287 ∷ + 524287 ∷
          []) ∷ [];
      lows = − 524288 ∷ − 524288 ∷ − 524288 ∷ [];
      highs = − 523671 ∷ − 523455 ∷ − 523653 ∷ [];
      list = 1 ∷ [];
    }
    ∷ record {
      traces = (− 524288 ∷ − 524288 ∷ + 524287 ∷ []) ∷ (− 524288 ∷ − 524288 ∷ − 524288 ∷ []) ∷ (− 524288 ∷ + 524287 ∷ + 524287 ∷
          []) ∷ (− 524288 ∷ + 524287 ∷ + 524287 ∷ []) ∷ [];
      lows = − 524288 ∷ + 524287 ∷ + 524062 ∷ [];
      highs = − 19201 ∷ + 524287 ∷ + 524062 ∷ [];
      list = 2 ∷ 3 ∷ [];
    }
    ∷ record {
      traces = (− 541 ∷ + 335 ∷ []) ∷ (− 133 ∷ − 57 ∷ []) ∷ (+ 10 ∷ + 81 ∷ []) ∷ (− 368 ∷ + 84 ∷ []) ∷ [];
      lows = − 382 ∷ + 335 ∷ [];
      highs = − 192 ∷ + 335 ∷ [];
      list = 0 ∷ 3 ∷ [];
    }
    ∷ record {
      traces = (+ 8 ∷ + 3 ∷ − 3 ∷ + 2 ∷ − 4 ∷ + 2 ∷ []) ∷ (+ 8 ∷ + 4 ∷ − 3 ∷ + 2 ∷ − 4 ∷ − 4 ∷ []) ∷ (+ 3 ∷ + 3 ∷ − 4 ∷ + 6 ∷
          − 6 ∷ − 4 ∷ []) ∷ (+ 2 ∷ + 7 ∷ − 2 ∷ + 7 ∷ − 6 ∷ − 2 ∷ []) ∷ (+ 4 ∷ + 8 ∷ − 4 ∷ + 7 ∷ − 7 ∷ − 2 ∷ []) ∷ (+ 5 ∷ + 3 ∷
          − 7 ∷ + 1 ∷ − 2 ∷ − 1 ∷ []) ∷ (+ 7 ∷ + 6 ∷ − 6 ∷ + 3 ∷ − 5 ∷ + 1 ∷ []) ∷ (+ 4 ∷ + 7 ∷ − 4 ∷ + 5 ∷ − 4 ∷ + 0 ∷ []) ∷ [];
      lows = + 8 ∷ + 4 ∷ − 3 ∷ + 2 ∷ − 4 ∷ − 4 ∷ [];
      highs = + 8 ∷ + 4 ∷ − 3 ∷ + 524287 ∷ − 4 ∷ − 4 ∷ [];
      list = 0 ∷ 1 ∷ 2 ∷ 3 ∷ 4 ∷ 5 ∷ 6 ∷ 7 ∷ [];
    }
    ∷ []

clipped_agree : map (λ (c : ClippedCase). (possible_matches c.traces c.lows c.highs).list) clipped_cases
    ≡ map (λ (c : ClippedCase). c.list) clipped_cases
unfolding everything
clipped_agree = refl
