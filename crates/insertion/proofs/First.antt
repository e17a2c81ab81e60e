-- The first leaf's record: zeros, a leaf's head and one segment over the whole trace are the record of document 01's first leaf.
use mathlib.Core.Path.{◌≡◌, ap, ◌∙◌}
use mathlib.Core.List.{List, [], ◌∷◌, ◌++◌, flatten}
use Prim.Native.Nat.{ℕ, suc, ◌-◌}
use native.Mathlib.Omega.{arith}
use lib.IntN.{ℤ, pos}
use lib.ListN.{length, take, drop, drop_of_length-le}
use lib.Seq.{take_all}
use Rattle.integer.specs.Words.{chosen}
use Rattle.segment.specs.Figures.{sum, scatter}
use Rattle.dstree.specs.Measures.{Trace}
use Rattle.dstree.specs.Figures.{run, samples_on}
use Rattle.dstree.specs.Adding.{segment_of, segments_from, segments_of}
use Rattle.tables.specs.Layout.{head_places, record_places}
use Rattle.tables.specs.Tables.{filled}
use Rattle.insertion_memory.specs.Records.{segment_fields, fields_of, leaf_record}
use Rattle.insertion.specs.Widening.{with_segment}
use Rattle.insertion.specs.Heads.{leaf_head, segment_of_parts}

whole : (x : Trace) → samples_on (run 1 (length x)) x ≡ x
unfolding samples_on
whole x = let e : suc (length x) - 1 ≡ length x = omega arith in ap (λ (w : ℕ). take w x) e ∙ take_all (length x) x (omega arith)

pub first_is : (r : List ℤ) (x : Trace) → length r ≡ record_places
    → with_segment (leaf_head 1 0 ++ drop head_places (filled record_places (pos 0) r)) 0 (segment_of_parts (length x) (sum x) (sum x) (scatter x) (scatter x))
    ≡ leaf_record (segments_of (length x ∷ []) (x ∷ [])) 0
unfolding with_segment segment_fields fields_of leaf_record flatten chosen segment_of segments_from
first_is r x size =
    let none_left : drop record_places r ≡ [] = drop_of_length-le r {i = record_places} (omega arith) in
    rw (none_left, whole x)
