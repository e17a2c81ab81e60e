-- Document 02, §14, at work: damaged sheets of both widths and with label blocks, by computation; and what the check does not see.
use Prim.Native.Nat.{ℕ}
use mathlib.Core.Path.{◌≡◌, refl}
use mathlib.Core.List.{List, [], ◌∷◌, map, flatten}
use lib.ListN.{set, get_or, take}
use Rattle.dstree.specs.Measures.{Measures, measures}
use Rattle.dstree.specs.Labels.{label, no_label}
use Rattle.dstree.specs.Refusals.{torn_block, bad_sheet}
use Rattle.dstree.specs.Sheet.{block, head_of, Judged, refused, holds}
use Rattle.dstree.specs.SheetWidths.{judge_sheet}
use Rattle.dstree.proofs.Notation.{+}
use Rattle.dstree.proofs.Everything.{everything}

abbrev m : Measures
m = measures 1 8 2

-- one trace of one sample, 1,280 or 327,680, without a label or with the code 3 and the serial 4
abbrev head : ℕ → List ℕ
head kind = block kind 0 (head_of m 1)

abbrev narrow_block : List ℕ
narrow_block = block 2 1 (0 ∷ 5 ∷ [])

abbrev wide_block : List ℕ
wide_block = block 4 1 (0 ∷ 0 ∷ 5 ∷ 0 ∷ [])

abbrev label_block : List ℕ
label_block = block 5 2 (3 ∷ 0 ∷ 4 ∷ [])

abbrev judged : List (List ℕ) → Judged
judged blocks = judge_sheet (flatten blocks)

abbrev exchanged : ℕ → ℕ → List ℕ → List ℕ
exchanged p q b = set (set b p (get_or b q 0)) q (get_or b p 0)

pub record TornExamples : Type 0 where
  -- the sheets as they are
  pub whole : judged (head 1 ∷ narrow_block ∷ []) ∷ judged (head 1 ∷ narrow_block ∷ label_block ∷ []) ∷ judged (head 3 ∷ wide_block ∷ label_block ∷ []) ∷ []
      ≡ holds m ((+ 1280 ∷ []) ∷ []) (no_label ∷ []) ∷ holds m ((+ 1280 ∷ []) ∷ []) (label 3 4 ∷ []) ∷ holds m ((+ 327680 ∷ []) ∷ []) (label 3 4 ∷ []) ∷ []
  -- "exactly one byte of it differs". Block 0's kind becomes that of the other width: block 0 is named, and not the samples that no longer
  -- go with it
  pub head_kind : judged (set (head 1) 2 3 ∷ narrow_block ∷ []) ∷ judged (set (head 3) 2 1 ∷ wide_block ∷ []) ∷ [] ≡ refused (torn_block 0) ∷ refused (torn_block 0) ∷ []
  -- .. and a kind of samples becomes that of labels: 9, and not 10
  pub sample_kind : judged (head 1 ∷ set narrow_block 2 5 ∷ []) ∷ judged (head 3 ∷ set wide_block 2 5 ∷ []) ∷ [] ≡ refused (torn_block 1) ∷ refused (torn_block 1) ∷ []
  -- byte 3, a sample, a label, a byte of the check
  pub one_byte : map (λ place. judged (head 3 ∷ wide_block ∷ set label_block place 1 ∷ [])) (3 ∷ 4 ∷ 6 ∷ 509 ∷ 510 ∷ 511 ∷ [])
      ≡ refused (torn_block 2) ∷ refused (torn_block 2) ∷ refused (torn_block 2) ∷ refused (torn_block 2) ∷ refused (torn_block 2) ∷ refused (torn_block 2) ∷ []
  -- "two unequal bytes within one block have changed places, check bytes among them"
  pub exchange : judged (head 1 ∷ exchanged 4 5 narrow_block ∷ []) ∷ judged (head 3 ∷ exchanged 6 510 wide_block ∷ []) ∷ judged (head 3 ∷ wide_block ∷ exchanged 510 511 label_block ∷ []) ∷ []
      ≡ refused (torn_block 1) ∷ refused (torn_block 1) ∷ refused (torn_block 2) ∷ []
  -- blocks in each other's places, a block lost, the last block lost
  pub blocks : judged (head 1 ∷ label_block ∷ narrow_block ∷ []) ∷ judged (head 1 ∷ label_block ∷ []) ∷ judged (head 1 ∷ []) ∷ []
      ≡ refused (torn_block 1) ∷ refused (torn_block 1) ∷ refused bad_sheet ∷ []
  -- what the check does not see: two bytes that differ, one up by 6 and the next one down by 5, which count 5 and 6 times
  pub two_hidden : judged (head 1 ∷ set (set narrow_block 4 6) 5 0 ∷ []) ≡ holds m ((+ 6 ∷ []) ∷ []) (no_label ∷ [])
  -- .. nor that a sheet ends before its first block of labels
  pub labels_lost : judge_sheet (take 1024 (flatten (head 1 ∷ narrow_block ∷ label_block ∷ []))) ≡ holds m ((+ 1280 ∷ []) ∷ []) (no_label ∷ [])

pub torn_examples : TornExamples
unfolding everything
torn_examples = record {
  whole = refl;
  head_kind = refl;
  sample_kind = refl;
  one_byte = refl;
  exchange = refl;
  blocks = refl;
  two_hidden = refl;
  labels_lost = refl;
}
