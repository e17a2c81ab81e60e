-- Node records as adding writes them: a new leaf's, a widened one, and a leaf's that becomes inner.
use Rattle.std.specs.Prelude.{ℕ, ◌+◌, ◌*◌, ◌-◌, ℤ, pos, length, drop, take, replicate}
use mathlib.Core.List.{List, [], ◌∷◌, ◌++◌, map, flatten}
use Rattle.dstree.specs.Measures.{Trace}
use Rattle.dstree.specs.Node.{Segment, Figure, by_sum, by_scatter, Test, change_all}
use Rattle.dstree.specs.Adding.{widen_segment}
use Rattle.tables.specs.Layout.{segments_place, head_places, segment_places, record_places}
use Rattle.tables.specs.View.{value_at, segments_in}

-- a segment's five places
unfoldable pub segment_fields : Segment → List ℤ
segment_fields s = pos s.end ∷ s.least_sum ∷ s.greatest_sum ∷ pos s.least_scatter ∷ pos s.greatest_scatter ∷ []

unfoldable pub fields_of : List Segment → List ℤ
fields_of segments = flatten (map segment_fields segments)

-- a new leaf's record, by its segments and its first trace: the head, the segments, zeros in what is free
unfoldable pub leaf_record : List Segment → ℕ → List ℤ
leaf_record segments first =
    (pos 0 ∷ pos (length segments) ∷ pos first ∷ pos 0 ∷ pos 0 ∷ pos 0 ∷ pos 0 ∷ [])
    ++ (fields_of segments ++ replicate (record_places - head_places - segment_places * length segments) (pos 0))

-- "widening least and greatest": the head stays, and so does what is free
unfoldable pub widen_record : Trace → List ℤ → List ℤ
widen_record x r =
    let widened = change_all (widen_segment x) 1 (segments_in r) in
    take head_places r ++ (fields_of widened ++ drop (head_places + segment_places * length widened) r)

-- 1 by sum, 2 by scatter
unfoldable pub inner_kind : Figure → ℤ
inner_kind by_sum = pos 1
inner_kind by_scatter = pos 2

-- "The leaf .. becomes inner": its segments stay
unfoldable pub inner_record : Test → ℕ → ℕ → List ℤ → List ℤ
inner_record test left right r =
    (inner_kind test.figure ∷ value_at r segments_place ∷ pos left ∷ pos right ∷ pos test.on.first ∷ pos test.on.last
    ∷ test.threshold ∷ [])
    ++ drop head_places r
