-- Document 02, §9, at work: sheets of both widths, and what is refused of samples, by computation.
use Prim.Native.Nat.{ℕ}
use mathlib.Core.Path.{◌≡◌, refl}
use mathlib.Core.List.{List, [], ◌∷◌, ◌++◌, map, flatten}
use lib.ListN.{replicate}
use Rattle.dstree.specs.Measures.{Trace, Measures, measures}
use Rattle.dstree.specs.Labels.{label, no_label}
use Rattle.dstree.specs.Refusals.{wrong_trace, sheet_length, torn_block, bad_sheet, bad_k, bad_recording, bad_batch, sample_range}
use Rattle.dstree.specs.Sheet.{block, wide, head_of, coded, kind_in, blocks_of, blocks_needed_as, Judged, refused, holds}
use Rattle.dstree.specs.SheetWidths.{format_of, sheet_of, judge_sheet}
use Rattle.dstree.specs.Recording.{recording_of}
use Rattle.dstree.specs.Book.{Layout, Lent, call, Ask, adding, matching, listing, batching, remote_matching, exporting, reading}
use Rattle.dstree.specs.Book.{Answer, refusing, answering, added, exported, reply_of}
use Rattle.dstree.proofs.Notation.{+, −, plain_book}
use Rattle.dstree.proofs.Everything.{everything}

abbrev m : Measures
m = measures 1 8 2

abbrev head : ℕ → ℕ → List ℕ
head kind count = block kind 0 (head_of m count)

abbrev judged : List (List ℕ) → Judged
judged blocks = judge_sheet (flatten blocks)

-- a wide sheet of one trace, its sample in four bytes
abbrev wide_with : List ℕ → Judged
wide_with bytes = judged (head 3 1 ∷ block 4 1 bytes ∷ [])

-- ---- calls

abbrev layout : Layout
layout = record { control_fields = 5; record_places = 87 }

abbrev exact : Lent
exact = record { control = 5; samples = 2; nodes = 261; links = 2; work = 3; labels = 2 }

abbrev nothing : Lent
nothing = record { control = 0; samples = 0; nodes = 0; links = 0; work = 0; labels = 0 }

-- of a library of two traces at most, of one sample each
abbrev answer_to : List Trace → Ask → Answer
answer_to traces ask = (reply_of layout (plain_book (measures 1 2 2) traces) (call exact ask)).answer

-- a narrow trace and a wide one
abbrev both : List Trace
both = (− 32768 ∷ []) ∷ (+ 32768 ∷ []) ∷ []

-- samples past the limits; of two samples also one that is too long
abbrev above : Trace
above = + 524288 ∷ []

abbrev below : Trace
below = + 0 ∷ − 524289 ∷ []

pub record WidthExamples : Type 0 where
  -- "four bytes each in two's complement"
  pub coded_wide : map (coded wide) (+ 524287 ∷ − 1 ∷ − 524288 ∷ []) ≡ (255 ∷ 255 ∷ 7 ∷ 0 ∷ []) ∷ (255 ∷ 255 ∷ 255 ∷ 255 ∷ []) ∷ (0 ∷ 0 ∷ 248 ∷ 255 ∷ []) ∷ []
  -- "A library whose samples all fit 16 bits is written as before. Any other uses kind 3 for block 0 and kind 4 for samples"
  pub kinds : map (λ x. (format_of ((x ∷ []) ∷ [])).head_kind) (+ 32767 ∷ − 32768 ∷ + 32768 ∷ − 32769 ∷ []) ≡ 1 ∷ 1 ∷ 3 ∷ 3 ∷ []
  pub wide_kinds : map kind_in (blocks_of wide m ((+ 32768 ∷ []) ∷ []) (label 0 1 ∷ [])) ≡ 3 ∷ 4 ∷ 5 ∷ []
  -- "126 per block": 126 and 127 samples, the largest library
  pub counts : blocks_needed_as wide 126 1 [] ∷ blocks_needed_as wide 127 1 [] ∷ blocks_needed_as wide 4096 256 [] ∷ [] ≡ 2 ∷ 3 ∷ 8324 ∷ []
  pub written : sheet_of m ((+ 32768 ∷ []) ∷ []) (no_label ∷ []) ≡ flatten (head 3 1 ∷ block 4 1 (0 ∷ 128 ∷ 0 ∷ 0 ∷ []) ∷ [])
  pub read : wide_with (0 ∷ 128 ∷ 0 ∷ 0 ∷ []) ≡ holds m ((+ 32768 ∷ []) ∷ []) (no_label ∷ [])
  pub read_labelled : judged (head 3 1 ∷ block 4 1 (0 ∷ 128 ∷ 0 ∷ 0 ∷ []) ∷ block 5 2 (3 ∷ 0 ∷ 4 ∷ []) ∷ []) ≡ holds m ((+ 32768 ∷ []) ∷ []) (label 3 4 ∷ [])
  -- "A sample block whose kind doesn't go with block 0's is a wrong kind"
  pub unlike : map judged ((head 3 1 ∷ block 2 1 (1 ∷ 0 ∷ []) ∷ []) ∷ (head 1 1 ∷ block 4 1 (1 ∷ 0 ∷ []) ∷ []) ∷ (head 4 0 ∷ []) ∷ [])
      ≡ refused (torn_block 1) ∷ refused (torn_block 1) ∷ refused (torn_block 0) ∷ []
  -- "A wide sheet whose samples all fit 16 bits is refused as 10", also one without a trace
  pub all_fit : wide_with (255 ∷ 127 ∷ 0 ∷ 0 ∷ []) ∷ judged (head 3 0 ∷ []) ∷ [] ≡ refused bad_sheet ∷ refused bad_sheet ∷ []
  -- "15 sample range, for a .. sheet with a sample outside the limits": 524,287 and 524,288; 32 bits count, not 20; "on sheets after 10"
  pub ranges : map wide_with ((255 ∷ 255 ∷ 7 ∷ 0 ∷ []) ∷ (0 ∷ 0 ∷ 8 ∷ 0 ∷ []) ∷ (0 ∷ 0 ∷ 12 ∷ 0 ∷ []) ∷ (0 ∷ 0 ∷ 8 ∷ 0 ∷ 1 ∷ []) ∷ (0 ∷ 0 ∷ 8 ∷ 0 ∷ (replicate 501 0 ++ (1 ∷ []))) ∷ [])
      ≡ holds m ((+ 524287 ∷ []) ∷ []) (no_label ∷ []) ∷ refused sample_range ∷ refused sample_range ∷ refused bad_sheet ∷ refused bad_sheet ∷ []
  -- ".. for an added trace": "after 4", and before 5
  pub adds : map (λ x. answer_to both (adding x no_label)) (below ∷ above ∷ []) ≡ refusing wrong_trace ∷ refusing sample_range ∷ []
  pub adds_any : map (λ x. answer_to [] (adding x no_label)) ((+ 524287 ∷ []) ∷ (− 524288 ∷ []) ∷ []) ≡ answering (added 0) ∷ answering (added 0) ∷ []
  -- ".. query": "after 4", behind 11 and 14, and before 6
  pub matches : map (λ x. answer_to [] (matching x [])) (below ∷ above ∷ []) ≡ refusing wrong_trace ∷ refusing sample_range ∷ []
  pub remotes : map (λ x. answer_to [] (remote_matching x [])) (below ∷ above ∷ []) ≡ refusing wrong_trace ∷ refusing sample_range ∷ []
  pub lists : map (λ k. answer_to [] (listing k above [] [])) (0 ∷ 1 ∷ []) ≡ refusing bad_k ∷ refusing sample_range ∷ []
  pub batches : map (λ list. answer_to [] (batching 2 below [] list)) ([] ∷ replicate 2 (record { trace = 0; distance = 0 }) ∷ [])
      ≡ refusing bad_batch ∷ refusing sample_range ∷ []
  -- ".. or sheet": before 2
  pub reads : (reply_of layout (plain_book m []) (call nothing (reading (flatten (head 3 1 ∷ block 4 1 (0 ∷ 0 ∷ 8 ∷ 0 ∷ []) ∷ []))))).answer ≡ refusing sample_range
  -- "WAV export refuses wider samples as 12", of this trace alone, and before 8
  pub exports : map (λ number. answer_to both (exporting number 8000 (replicate 46 0))) (0 ∷ 1 ∷ [])
      ≡ answering (exported 46 (recording_of 8000 (− 32768 ∷ []))) ∷ refusing bad_recording ∷ []
  pub short_exports : map (λ number. answer_to both (exporting number 8000 [])) (0 ∷ 1 ∷ []) ≡ refusing sheet_length ∷ refusing bad_recording ∷ []

pub width_examples : WidthExamples
unfolding everything
width_examples = record {
  coded_wide = refl;
  kinds = refl;
  wide_kinds = refl;
  counts = refl;
  written = refl;
  read = refl;
  read_labelled = refl;
  unlike = refl;
  all_fit = refl;
  ranges = refl;
  adds = refl;
  adds_any = refl;
  matches = refl;
  remotes = refl;
  lists = refl;
  batches = refl;
  reads = refl;
  exports = refl;
  short_exports = refl;
}
