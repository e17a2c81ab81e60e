-- Document 02, §10: small libraries, a query and edges, with the report that another implementation of documents 01 and 02 makes of them;
-- the definitions give the same, by computation. Among them are samples at both ends of 20 bits, equal traces, bounds and upper figures on
-- an edge, and edges beyond the largest distance.
use Prim.Native.Nat.{ℕ}
use mathlib.Core.Path.{◌≡◌, refl}
use mathlib.Core.List.{List, [], ◌∷◌, map}
use Rattle.dstree.specs.Measures.{Trace, Measures, measures}
use Rattle.dstree.specs.Adding.{tree_of}
use Rattle.dstree.specs.Bands.{band_report, report_places}
use Rattle.dstree.proofs.Notation.{+, −}
use Rattle.dstree.proofs.Everything.{everything}

-- the report as it stands in the caller's list: sure and possible, band by band
pub record BandCase : Type 0 where
  pub measures : Measures
  pub traces : List Trace
  pub query : Trace
  pub edges : List ℕ
  pub report : List ℕ

abbrev band_cases : List BandCase
band_cases =
    record {
      measures = measures 7 10 5;
      traces = (− 34 ∷ + 30 ∷ + 535 ∷ + 771 ∷ + 138 ∷ + 61 ∷ + 517 ∷ []) ∷ (+ 323 ∷ + 294 ∷ + 415 ∷ + 321 ∷ + 196 ∷ + 369 ∷ + 560 ∷
          []) ∷ (− 38 ∷ + 129 ∷ + 671 ∷ + 458 ∷ − 344 ∷ + 12 ∷ + 705 ∷ []) ∷ (− 111 ∷ + 296 ∷ + 235 ∷ + 650 ∷ − 63 ∷ + 495 ∷ + 202 ∷
          []) ∷ (− 57 ∷ + 397 ∷ + 195 ∷ + 591 ∷ + 125 ∷ + 64 ∷ + 733 ∷ []) ∷ (+ 182 ∷ − 24 ∷ + 422 ∷ + 767 ∷ + 166 ∷ + 3 ∷ + 425 ∷
          []) ∷ [];
      query = − 47 ∷ + 263 ∷ + 433 ∷ + 524 ∷ − 109 ∷ + 38 ∷ + 719 ∷ [];
      edges = 1 ∷ 538 ∷ 134817 ∷ 135134 ∷ 228213 ∷ 301980 ∷ 301981 ∷ 407261 ∷ 1156210 ∷ 3011912 ∷ 23798031 ∷ 7970980791549 ∷
          281474439840000 ∷ 281474439840001 ∷ [];
      report = 0 ∷ 5 ∷ 0 ∷ 5 ∷ 0 ∷ 5 ∷ 0 ∷ 5 ∷ 0 ∷ 5 ∷ 0 ∷ 6 ∷ 0 ∷ 6 ∷ 0 ∷ 6 ∷ 0 ∷ 6 ∷ 0 ∷ 0 ∷ 0 ∷ 0 ∷ 0 ∷ 0 ∷ 0 ∷ 0 ∷ [];
    }
    ∷ record {
      measures = measures 3 100 2;
      traces = (− 524288 ∷ − 1 ∷ + 524287 ∷ []) ∷ (+ 1 ∷ + 0 ∷ − 524288 ∷ []) ∷ (− 524288 ∷ − 524287 ∷ + 0 ∷ []) ∷ (+ 1 ∷ + 0 ∷ +
          524286 ∷ []) ∷ (+ 524286 ∷ − 1 ∷ − 524287 ∷ []) ∷ [];
      query = − 524288 ∷ + 0 ∷ + 524286 ∷ [];
      edges = 4213111255 ∷ 549752668166 ∷ [];
      report = 1 ∷ 3 ∷ [];
    }
    ∷ record {
      measures = measures 1 40 2;
      traces = (+ 3 ∷ []) ∷ (+ 3 ∷ []) ∷ (+ 3 ∷ []) ∷ (+ 3 ∷ []) ∷ (+ 3 ∷ []) ∷ (+ 3 ∷ []) ∷ (+ 3 ∷ []) ∷ (+ 3 ∷ []) ∷ (+ 3 ∷ []) ∷
          (+ 3 ∷ []) ∷ (+ 3 ∷ []) ∷ [];
      query = + 3 ∷ [];
      edges = 0 ∷ 1 ∷ 1815975 ∷ 20114122 ∷ 43580548 ∷ 51766812 ∷ 281474439840000 ∷ 281474439840001 ∷ [];
      report = 11 ∷ 11 ∷ 0 ∷ 0 ∷ 0 ∷ 0 ∷ 0 ∷ 0 ∷ 0 ∷ 0 ∷ 0 ∷ 0 ∷ 0 ∷ 0 ∷ [];
    }
    ∷ record {
      measures = measures 4 4096 4;
      traces = (− 1 ∷ − 3 ∷ + 998 ∷ − 2 ∷ []) ∷ (− 2 ∷ − 2 ∷ + 998 ∷ − 2 ∷ []) ∷ (− 2 ∷ − 2 ∷ + 999 ∷ − 3 ∷ []) ∷ (− 1 ∷ − 3 ∷ + 998
          ∷ − 2 ∷ []) ∷ (− 2 ∷ − 2 ∷ + 998 ∷ − 2 ∷ []) ∷ (− 2 ∷ − 2 ∷ + 998 ∷ − 2 ∷ []) ∷ (− 2 ∷ − 2 ∷ + 998 ∷ − 2 ∷ []) ∷ (− 2 ∷ −
          2 ∷ + 998 ∷ − 2 ∷ []) ∷ [];
      query = − 2 ∷ − 2 ∷ + 998 ∷ − 2 ∷ [];
      edges = 1 ∷ 2 ∷ 3 ∷ 204 ∷ 496395 ∷ 2000003 ∷ [];
      report = 0 ∷ 0 ∷ 1 ∷ 3 ∷ 0 ∷ 2 ∷ 0 ∷ 2 ∷ 0 ∷ 2 ∷ [];
    }
    ∷ record {
      measures = measures 1 11 2;
      traces = (− 87651 ∷ []) ∷ (− 87650 ∷ []) ∷ (− 87648 ∷ []) ∷ (− 87644 ∷ []) ∷ (− 87652 ∷ []) ∷ (− 87651 ∷ []) ∷ (− 160430 ∷ [])
          ∷ [];
      query = − 88805 ∷ [];
      edges = 0 ∷ 70561 ∷ 1331716 ∷ 1331717 ∷ 1334025 ∷ 1334026 ∷ 1338649 ∷ 1338650 ∷ 1347921 ∷ 1347922 ∷ 23964103 ∷ 5130140625 ∷
          5130140626 ∷ 61951264026651 ∷ 281474439840000 ∷ 281474439840001 ∷ [];
      report = 0 ∷ 2 ∷ 0 ∷ 2 ∷ 2 ∷ 4 ∷ 0 ∷ 2 ∷ 1 ∷ 3 ∷ 0 ∷ 2 ∷ 0 ∷ 4 ∷ 0 ∷ 4 ∷ 0 ∷ 4 ∷ 0 ∷ 2 ∷ 0 ∷ 2 ∷ 0 ∷ 2 ∷ 0 ∷ 0 ∷ 0 ∷ 0 ∷ 0 ∷ 0
          ∷ [];
    }
    ∷ record {
      measures = measures 3 5 2;
      traces = (− 524288 ∷ − 524288 ∷ + 524287 ∷ []) ∷ (− 524288 ∷ − 524288 ∷ − 524288 ∷ []) ∷ (− 524288 ∷ + 524287 ∷ + 524287 ∷ [])
          ∷ [];
      query = − 524288 ∷ − 524288 ∷ − 524288 ∷ [];
      edges = 0 ∷ 1 ∷ 17 ∷ 3116405400 ∷ 19046089486 ∷ 1099508555697 ∷ 1099508555698 ∷ 1099509530625 ∷ 2199019061250 ∷ 2199019074927
          ∷ 2199019074928 ∷ 24128299718867 ∷ 281474439840000 ∷ 281474439840001 ∷ [];
      report = 1 ∷ 1 ∷ 0 ∷ 0 ∷ 0 ∷ 0 ∷ 0 ∷ 0 ∷ 0 ∷ 0 ∷ 0 ∷ 2 ∷ 0 ∷ 2 ∷ 0 ∷ 2 ∷ 0 ∷ 2 ∷ 0 ∷ 2 ∷ 0 ∷ 0 ∷ 0 ∷ 0 ∷ 0 ∷ 0 ∷ [];
    }
    ∷ []

bands_agree : map (λ (c : BandCase). report_places (band_report (tree_of c.measures c.traces) c.query c.edges)) band_cases
    ≡ map (λ (c : BandCase). c.report) band_cases
unfolding everything
bands_agree = refl
