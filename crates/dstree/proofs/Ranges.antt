-- A trace is covered by a node's record: its figures lie within the recorded least and greatest, segment by segment.
-- Widening keeps what is covered and covers the trace that it is for; a new leaf covers its own traces.
use Prim.Native.Nat.{ℕ, suc, ◌≤◌}
use mathlib.Core.List.{List, [], ◌∷◌}
use native.Mathlib.Omega.{arith}
use lib.ListN.{get_or}
use lib.Signed.{◌≤ℤ◌}
use lib.Dec.{T}
use Rattle.integer.specs.Words.{is_in}
use Rattle.integer.proofs.Order.{≤ℤ_trans}
use Rattle.integer.proofs.Lists.{In, in_map, is_in_lem, lesser_left, lesser_right, greater_left, greater_right, least_ℤ_low, greatest_ℤ_high, least_low, greatest_high}
use Rattle.dstree.specs.Measures.{Trace}
use Rattle.dstree.specs.Figures.{Run, run, sum_on, scatter_on}
use Rattle.dstree.specs.Node.{Segment, Node, change_all}
use Rattle.dstree.specs.Adding.{widen_segment, widen, segment_of, segments_from, traces_of, new_leaf}

-- a trace's sum and scatter on a run lie within a segment's ranges
pub record CoveredOn (x : Trace) (on : Run) (s : Segment) : Type 0 where
  pub sum_low : s.least_sum ≤ℤ sum_on on x
  pub sum_high : sum_on on x ≤ℤ s.greatest_sum
  pub scatter_low : s.least_scatter ≤ scatter_on on x
  pub scatter_high : scatter_on on x ≤ s.greatest_scatter

-- .. on each segment, the first from sample `from` on
pub data Covered (x : Trace) : ℕ → List Segment → Type 0 where
  covered_none : {from : ℕ} → Covered x from []
  covered_more : {from : ℕ} {s : Segment} {rest : List Segment} → CoveredOn x (run from s.end) s → Covered x (suc s.end) rest → Covered x from (s ∷ rest)

on_kept : (x y : Trace) (on : Run) (s : Segment) → CoveredOn y on s → CoveredOn y on (widen_segment x on s)
unfolding widen_segment
on_kept x y on s h = record {
  sum_low = ≤ℤ_trans (lesser_left s.least_sum (sum_on on x)) h.sum_low;
  sum_high = ≤ℤ_trans h.sum_high (greater_left s.greatest_sum (sum_on on x));
  scatter_low = omega (arith, h.scatter_low);
  scatter_high = omega (arith, h.scatter_high);
}

on_new : (x : Trace) (on : Run) (s : Segment) → CoveredOn x on (widen_segment x on s)
unfolding widen_segment
on_new x on s = record {
  sum_low = lesser_right s.least_sum (sum_on on x);
  sum_high = greater_right s.greatest_sum (sum_on on x);
  scatter_low = omega arith;
  scatter_high = omega arith;
}

changed_kept : (x y : Trace) {from : ℕ} {l : List Segment} → Covered y from l → Covered y from (change_all (widen_segment x) from l)
unfolding change_all widen_segment
changed_kept x y covered_none = covered_none
changed_kept x y (covered_more {from} {s} h w) = covered_more (on_kept x y (run from s.end) s h) (changed_kept x y w)

changed_new : (x : Trace) (from : ℕ) (l : List Segment) → Covered x from (change_all (widen_segment x) from l)
unfolding change_all widen_segment
changed_new x from [] = covered_none
changed_new x from (s ∷ rest) = covered_more (on_new x (run from s.end) s) (changed_new x (suc s.end) rest)

pub widen_kept : (x y : Trace) (a : Node) → Covered y 1 a.segments → Covered y 1 (widen x a).segments
unfolding widen
widen_kept x y a w = changed_kept x y w

pub widen_new : (x : Trace) (a : Node) → Covered x 1 (widen x a).segments
unfolding widen
widen_new x a = changed_new x 1 a.segments

on_own : (y : Trace) (traces : List Trace) (on : Run) → In y traces → CoveredOn y on (segment_of traces on)
unfolding segment_of
on_own y traces on i = record {
  sum_low = least_ℤ_low (in_map (sum_on on) i);
  sum_high = greatest_ℤ_high (in_map (sum_on on) i);
  scatter_low = least_low (in_map (scatter_on on) i);
  scatter_high = greatest_high (in_map (scatter_on on) i);
}

pub from_covered : (y : Trace) (from : ℕ) (ends : List ℕ) (traces : List Trace) → In y traces → Covered y from (segments_from from ends traces)
unfolding segments_from segment_of
from_covered y from [] traces i = covered_none
from_covered y from (end ∷ rest) traces i = covered_more (on_own y traces (run from end) i) (from_covered y (suc end) rest traces i)

pub new_covered : (stored : List Trace) (ends numbers : List ℕ) (t : ℕ) → T (is_in t numbers) → Covered (get_or stored t []) 1 (new_leaf stored ends numbers).segments
unfolding new_leaf
new_covered stored ends numbers t i = from_covered (get_or stored t []) 1 ends (traces_of stored numbers) (in_map (λ (k : ℕ). get_or stored k []) (is_in_lem t numbers i))
