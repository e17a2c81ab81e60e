-- The record layout, which document 01 leaves to the team: the places of the control record and of a node's record.
use Rattle.std.specs.Prelude.{ℕ, ◌+◌, ◌*◌}
use Rattle.dstree.specs.Book.{Layout}
use Rattle.dstree.specs.Measures.{most_traces}

-- ---- the control record: "n, capacity, leaf size, counts"

abbrev pub n_place : ℕ
n_place = 0

abbrev pub capacity_place : ℕ
capacity_place = 1

abbrev pub leaf_size_place : ℕ
leaf_size_place = 2

abbrev pub trace_count_place : ℕ
trace_count_place = 3

abbrev pub node_count_place : ℕ
node_count_place = 4

abbrev pub control_fields : ℕ
control_fields = 5

-- ---- a node's record: a head, then segment by segment

-- 0 a leaf, 1 an inner node by sum, 2 an inner node by scatter
abbrev pub kind_place : ℕ
kind_place = 0

-- the number of segments
abbrev pub segments_place : ℕ
segments_place = 1

-- a leaf's first trace number; an inner node's left child
abbrev pub first_place : ℕ
first_place = 2

-- an inner node's right child
abbrev pub right_place : ℕ
right_place = 3

-- the first and the last sample of an inner node's test, and its threshold
abbrev pub run_first_place : ℕ
run_first_place = 4

abbrev pub run_last_place : ℕ
run_last_place = 5

abbrev pub threshold_place : ℕ
threshold_place = 6

abbrev pub head_places : ℕ
head_places = 7

-- each of 16 segments: right end, least sum, greatest sum, least scatter, greatest scatter
abbrev pub segment_places : ℕ
segment_places = 5

-- where segment i (from 0) starts
abbrev pub segment_at : ℕ → ℕ
segment_at i = head_places + i * segment_places

-- 7 + 16 × 5
abbrev pub record_places : ℕ
record_places = 87

-- Ours: an array with a place for each node has so many, one more than there are nodes at most
abbrev pub node_places : ℕ
node_places = 2 * most_traces

abbrev pub layout : Layout
layout = record { control_fields = control_fields; record_places = record_places }
