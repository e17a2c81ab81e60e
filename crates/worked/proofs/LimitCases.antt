-- Document 02, §12: small libraries, a query and a limit of leaves, with the answer that another implementation of documents 01 and 02
-- gives; the definitions give the same, by computation. Among them are samples beyond 16 bits, equal traces, a next bound that equals the
-- distance found, a limit past all leaves, and one of exactly the whole trail.
use Prim.Native.Nat.{ℕ}
use mathlib.Core.Path.{◌≡◌, refl}
use mathlib.Core.List.{List, [], ◌∷◌, map}
use Rattle.dstree.specs.Measures.{Trace, Measures, measures}
use Rattle.dstree.specs.Adding.{tree_of}
use Rattle.dstree.specs.Examples.{match_with}
use Rattle.dstree.specs.LeafLimit.{LimitedMatch, settled, unsettled, limited_by_steps}
use Rattle.dstree.proofs.Notation.{+, −}
use Rattle.dstree.proofs.Everything.{everything}

pub record LimitCase : Type 0 where
  pub measures : Measures
  pub traces : List Trace
  pub query : Trace
  pub most : ℕ
  pub answer : LimitedMatch

abbrev limit_cases : List LimitCase
limit_cases =
    record {
      measures = measures 4 100 2;
      traces = (+ 0 ∷ + 32767 ∷ + 32768 ∷ + 32767 ∷ []) ∷ (+ 32766 ∷ + 32767 ∷ − 32768 ∷ − 32769 ∷ []) ∷ (− 32768 ∷ + 32768 ∷ −
          32769 ∷ + 32768 ∷ []) ∷ (− 32769 ∷ − 32767 ∷ − 32769 ∷ − 32768 ∷ []) ∷ (+ 32766 ∷ + 32767 ∷ + 32768 ∷ + 32768 ∷ []) ∷ (−
          32768 ∷ + 32766 ∷ − 32767 ∷ − 32768 ∷ []) ∷ (+ 0 ∷ + 32767 ∷ + 32768 ∷ − 32767 ∷ []) ∷ (− 32768 ∷ + 32766 ∷ + 32766 ∷ +
          32767 ∷ []) ∷ (+ 32766 ∷ − 32768 ∷ + 32768 ∷ − 32768 ∷ []) ∷ [];
      query = − 1 ∷ + 32767 ∷ − 32768 ∷ + 0 ∷ [];
      most = 2;
      answer = unsettled 2147418115 (match_with 5 2147418115 2 3 (3 ∷ 5 ∷ []));
    }
    ∷ record {
      measures = measures 4 4096 4;
      traces = (− 1 ∷ − 3 ∷ + 998 ∷ − 2 ∷ []) ∷ (− 2 ∷ − 2 ∷ + 998 ∷ − 2 ∷ []) ∷ (− 2 ∷ − 2 ∷ + 999 ∷ − 3 ∷ []) ∷ (− 1 ∷ − 3 ∷ +
          998 ∷ − 2 ∷ []) ∷ (− 2 ∷ − 2 ∷ + 998 ∷ − 2 ∷ []) ∷ (− 2 ∷ − 2 ∷ + 998 ∷ − 2 ∷ []) ∷ (− 2 ∷ − 2 ∷ + 998 ∷ − 2 ∷ []) ∷ (− 2
          ∷ − 2 ∷ + 998 ∷ − 2 ∷ []) ∷ (− 2 ∷ − 2 ∷ + 3 ∷ − 2 ∷ []) ∷ (+ 0 ∷ + 0 ∷ + 40 ∷ + 0 ∷ []) ∷ [];
      query = − 1 ∷ − 1 ∷ + 519 ∷ − 1 ∷ [];
      most = 1;
      answer = unsettled 229444 (match_with 9 229444 1 2 (5 ∷ []));
    }
    ∷ record {
      measures = measures 3 14 2;
      traces = (− 524288 ∷ + 524287 ∷ + 524287 ∷ []) ∷ (− 312015 ∷ − 312015 ∷ − 312015 ∷ []) ∷ (− 239359 ∷ − 239359 ∷ − 239359 ∷
          []) ∷ (+ 27655 ∷ + 27655 ∷ + 27655 ∷ []) ∷ (− 307282 ∷ − 307282 ∷ − 307282 ∷ []) ∷ (+ 12615 ∷ + 12615 ∷ + 12615 ∷ []) ∷
          (+ 416115 ∷ + 416115 ∷ + 416115 ∷ []) ∷ (− 301152 ∷ − 301152 ∷ − 301152 ∷ []) ∷ (− 474818 ∷ − 474818 ∷ − 474818 ∷ []) ∷
          [];
      query = − 391050 ∷ − 391050 ∷ − 391050 ∷ [];
      most = 1;
      answer = unsettled 18739593675 (match_with 8 21051233472 1 2 (1 ∷ []));
    }
    ∷ record {
      measures = measures 4 100 2;
      traces = (+ 0 ∷ + 32767 ∷ + 32768 ∷ + 32767 ∷ []) ∷ (+ 32766 ∷ + 32767 ∷ − 32768 ∷ − 32769 ∷ []) ∷ (− 32768 ∷ + 32768 ∷ −
          32769 ∷ + 32768 ∷ []) ∷ (− 32769 ∷ − 32767 ∷ − 32769 ∷ − 32768 ∷ []) ∷ (+ 32766 ∷ + 32767 ∷ + 32768 ∷ + 32768 ∷ []) ∷ (−
          32768 ∷ + 32766 ∷ − 32767 ∷ − 32768 ∷ []) ∷ (+ 0 ∷ + 32767 ∷ + 32768 ∷ − 32767 ∷ []) ∷ (− 32768 ∷ + 32766 ∷ + 32766 ∷ +
          32767 ∷ []) ∷ (+ 32766 ∷ − 32768 ∷ + 32768 ∷ − 32768 ∷ []) ∷ [];
      query = − 32768 ∷ + 0 ∷ − 1 ∷ + 0 ∷ [];
      most = 4;
      answer = settled (match_with 7 3220963334 3 6 (3 ∷ 8 ∷ 10 ∷ []));
    }
    ∷ record {
      measures = measures 4 4096 4;
      traces = (− 1 ∷ − 3 ∷ + 998 ∷ − 2 ∷ []) ∷ (− 2 ∷ − 2 ∷ + 998 ∷ − 2 ∷ []) ∷ (− 2 ∷ − 2 ∷ + 999 ∷ − 3 ∷ []) ∷ (− 1 ∷ − 3 ∷ +
          998 ∷ − 2 ∷ []) ∷ (− 2 ∷ − 2 ∷ + 998 ∷ − 2 ∷ []) ∷ (− 2 ∷ − 2 ∷ + 998 ∷ − 2 ∷ []) ∷ (− 2 ∷ − 2 ∷ + 998 ∷ − 2 ∷ []) ∷ (− 2
          ∷ − 2 ∷ + 998 ∷ − 2 ∷ []) ∷ [];
      query = − 1 ∷ − 2 ∷ + 998 ∷ − 2 ∷ [];
      most = 10000;
      answer = settled (match_with 0 1 2 7 (2 ∷ 3 ∷ []));
    }
    ∷ record {
      measures = measures 5 38 7;
      traces = (− 32768 ∷ + 32766 ∷ + 32766 ∷ − 32769 ∷ + 32766 ∷ []) ∷ (+ 32766 ∷ + 32766 ∷ + 0 ∷ − 32767 ∷ − 32769 ∷ []) ∷ (+
          32767 ∷ + 32767 ∷ + 32767 ∷ + 32766 ∷ + 32766 ∷ []) ∷ (+ 32767 ∷ + 32767 ∷ − 32769 ∷ + 0 ∷ − 32769 ∷ []) ∷ (− 32767 ∷ −
          32767 ∷ + 32766 ∷ + 32766 ∷ − 32769 ∷ []) ∷ (+ 32768 ∷ + 0 ∷ + 32767 ∷ + 32767 ∷ − 32769 ∷ []) ∷ (− 32769 ∷ − 32768 ∷ −
          32768 ∷ − 32768 ∷ − 32768 ∷ []) ∷ (− 32768 ∷ + 32766 ∷ + 0 ∷ − 32767 ∷ − 32768 ∷ []) ∷ (+ 32766 ∷ − 32768 ∷ + 32768 ∷ + 0
          ∷ + 32767 ∷ []) ∷ (− 32769 ∷ + 32768 ∷ − 32769 ∷ − 32769 ∷ + 32768 ∷ []) ∷ (+ 0 ∷ + 32768 ∷ − 32769 ∷ + 0 ∷ + 32766 ∷ [])
          ∷ [];
      query = − 32769 ∷ − 32768 ∷ − 32769 ∷ + 0 ∷ + 32768 ∷ [];
      most = 2;
      answer = settled (match_with 6 5368709121 2 11 (1 ∷ 2 ∷ []));
    }
    ∷ []

limits_agree : map (λ (c : LimitCase). limited_by_steps c.most c.traces (tree_of c.measures c.traces) c.query) limit_cases
    ≡ map (λ (c : LimitCase). c.answer) limit_cases
unfolding everything
limits_agree = refl
