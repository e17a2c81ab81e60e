-- A sheet that is written, of either width and of any traces and labels, consists of bytes.
use Prim.Native.Nat.{ℕ, zero, suc, ◌-◌, ◌/◌, ◌%◌, ◌^◌, ◌<◌}
use mathlib.Core.Path.{◌≡◌, refl, sym, subst}
use mathlib.Core.Bool.{Bool, true, false, not}
use mathlib.Core.List.{List, [], ◌∷◌, map, flatten}
use native.Mathlib.Omega.{arith}
use native.Mathlib.Nat.{mod-lt}
use lib.ListN.{length}
use lib.IntN.{ℤ, pos, negsuc}
use lib.Dec.{T, ltb, lt→ltb}
use Rattle.integer.proofs.Lists.{All, all_none, all_more, all_mono, all_append, all_replicate, all_flatten, all_every}
use Rattle.dstree.specs.Measures.{Trace, Measures}
use Rattle.dstree.specs.Labels.{Label, are_zero_labels}
use Rattle.dstree.specs.Sheet.{are_bytes, bytes_of, filled_to, Format, carried_size, label_cells, label_kind, cells_size, sample_size, sealed}
use Rattle.dstree.specs.Sheet.{block, blocks_from, letters, head_of, coded, sample_blocks_needed, sample_parts, label_bytes}
use Rattle.dstree.specs.Sheet.{label_blocks_needed, label_parts, blocks_of, sheet_as}
use Rattle.dstree.specs.SheetWidths.{format_by, all_narrow, format_of, sheet_of}
use Rattle.dstree.proofs.SheetPieces.{pieces_all}
use Rattle.dstree.proofs.SheetFields.{Bytes}
use Rattle.dstree.proofs.SheetWritten.{none_written, all_written}

number_in_bytes : (k v : ℕ) → Bytes (bytes_of k v)
unfolding bytes_of
number_in_bytes zero v = all_none
number_in_bytes (suc k) v = all_more {a = v % 256} (mod-lt v (omega arith)) (number_in_bytes k (v / 256))

-- ---- blocks

block_bytes : (kind number : ℕ) (carried : List ℕ) → kind < 256 → Bytes carried → Bytes (block kind number carried)
unfolding block sealed filled_to
block_bytes kind number carried k h =
    all_append (all_append (all_append (number_in_bytes 2 number) (all_more {a = kind} k (all_more {a = 0} (omega arith) all_none)))
    (all_append h (all_replicate (carried_size - length carried) 0 (omega arith)))) (number_in_bytes 2 _)

blocks_bytes : (kind number : ℕ) → kind < 256 → {cs : List (List ℕ)} → All Bytes cs → All Bytes (blocks_from kind number cs)
unfolding blocks_from
blocks_bytes kind number k all_none = all_none
blocks_bytes kind number k (all_more {a = c} h hs) =
    all_more {a = block kind number c} (block_bytes kind number c k h) (blocks_bytes kind (suc number) k hs)

-- ---- what they carry

head_bytes : (m : Measures) (count : ℕ) → Bytes (head_of m count)
unfolding head_of letters
head_bytes m count =
    all_append (all_more {a = 84} (omega arith) (all_more {a = 82} (omega arith) (all_more {a = 67} (omega arith) (all_more {a = 76} (omega arith) all_none))))
    (all_append (all_append (all_append (number_in_bytes 2 m.n) (number_in_bytes 2 m.capacity)) (number_in_bytes 2 m.leaf_size)) (number_in_bytes 2 count))

label_in_bytes : (l : Label) → Bytes (label_bytes l)
unfolding label_bytes
label_in_bytes l = all_append (number_in_bytes 2 l.code) (number_in_bytes 4 l.serial)

labels_in_bytes : (ls : List Label) → All Bytes (map label_bytes ls)
labels_in_bytes [] = all_none
labels_in_bytes (l ∷ ls) = all_more {a = label_bytes l} (label_in_bytes l) (labels_in_bytes ls)

-- of labels: nothing, or all of them
label_parts_bytes : (labels : List Label) → All Bytes (label_parts labels)
label_parts_bytes labels = by (are_zero_labels labels) refl
  where
    by : (b : Bool) → are_zero_labels labels ≡ b → All Bytes (label_parts labels)
    by true e = subst (All Bytes) (sym (none_written labels e)) all_none
    by false e =
        subst (All Bytes) (sym (all_written labels e))
        (pieces_all (cells_size label_cells) (label_blocks_needed (length labels)) (all_flatten (labels_in_bytes labels)))

module _ (f : Format) where
  coded_bytes : (z : ℤ) → Bytes (coded f z)
  unfolding coded
  coded_bytes (pos v) = number_in_bytes f.sample_bytes v
  coded_bytes (negsuc v) = number_in_bytes f.sample_bytes (256 ^ f.sample_bytes - 1 - v)

  coded_all_bytes : (xs : List ℤ) → All Bytes (map (coded f) xs)
  coded_all_bytes [] = all_none
  coded_all_bytes (x ∷ xs) = all_more {a = coded f x} (coded_bytes x) (coded_all_bytes xs)

  sample_parts_bytes : (n : ℕ) (traces : List Trace) → All Bytes (sample_parts f n traces)
  sample_parts_bytes n traces =
      pieces_all (sample_size f) (sample_blocks_needed f (length traces) n) (all_flatten (coded_all_bytes (flatten traces)))

  -- ---- a sheet

  all_bytes : f.head_kind < 256 → f.sample_kind < 256 → (m : Measures) (traces : List Trace) (labels : List Label)
      → Bytes (sheet_as f m traces labels)
  unfolding sheet_as blocks_of
  all_bytes h k m traces labels =
      all_flatten (all_more {a = block f.head_kind 0 (head_of m (length traces))}
      (block_bytes f.head_kind 0 (head_of m (length traces)) h (head_bytes m (length traces)))
      (all_append (blocks_bytes f.sample_kind 1 k (sample_parts_bytes m.n traces))
      (blocks_bytes label_kind (suc (sample_blocks_needed f (length traces) m.n)) (omega arith) (label_parts_bytes labels))))

pub written_bytes : (m : Measures) (traces : List Trace) (labels : List Label) → T (are_bytes (sheet_of m traces labels))
unfolding are_bytes sheet_of format_of
written_bytes m traces labels = all_every (λ b. ltb b 256) (all_mono (λ b k. lt→ltb b 256 k) (by (not (all_narrow traces))))
  where
    by : (wide : Bool) → Bytes (sheet_as (format_by wide) m traces labels)
    by true = all_bytes (format_by true) (omega arith) (omega arith) m traces labels
    by false = all_bytes (format_by false) (omega arith) (omega arith) m traces labels
