-- `splitting::leaves::write_segments` meets its contract: after i turns the first i segments are written (`Written`), and the others are
-- those of the ends that are left.
use mathlib.Core.Path.{◌≡◌, refl, sym, ap, ap₂, ◌∙◌}
use mathlib.Core.List.{List}
use Prim.Native.Nat.{ℕ, ◌+◌, ◌≤◌}
use native.Mathlib.Omega.{arith}
use native.Mathlib.Numerals.{add-one}
use lib.IntN.{ℤ}
use lib.ListN.{length, get_or, take, drop}
use lib.Seq.{length-take-le, take_all}
use mir.Syntax.{w64}
use Rattle.integer.proofs.Width.{read}
use Rattle.dstree.specs.Measures.{Trace}
use Rattle.dstree.specs.Figures.{run}
use Rattle.dstree.specs.Node.{Segment}
use Rattle.dstree.specs.Adding.{segment_of, segments_from}
use Rattle.tables.specs.Layout.{record_places}
use Rattle.leaf_figures.proofs.Taken.{least_back, greatest_back}
use Rattle.leaf_figures.proofs.Totals.{next_at}
use Rattle.insertion.specs.Heads.{segment_of_parts}
use Rattle.insertion.specs.Widening.{with_segment}
use Rattle.leaf_figures.specs.Ends.{EndsRoom}
use Rattle.leaf_figures.specs.declared.ends.Ends.{Ends}
use Rattle.splitting.specs.Leaves.{with_segments}
use Rattle.splitting.proofs.Written.{with_none, with_length, with_more, segments_length, segment_next, passed_more}
use Rattle.leaf_figures.specs.Sides.{side_traces}
use Rattle.splitting.proofs.leaves.write_segments.Goals as goal

-- there are as many places as ends
enough : (e : Ends) → EndsRoom e → e.count ≤ length e.at
enough e p = omega (arith, p.places, p.few)

module _ (at : List ℕ) (count : ℕ) (room : count ≤ length at) (traces : List Trace) where
  abbrev segments : List Segment
  segments = segments_from 1 (take count at) traces

  count_is : length segments ≡ count
  count_is = segments_length 1 (take count at) traces ∙ length-take-le count at room

  -- what a turn of the loop knows
  done_is : (i : ℕ) → i ≤ count → length (take i segments) ≡ i
  done_is i h = length-take-le i segments (omega (arith, count_is, h))

  long : (r l : List ℤ) (i : ℕ) → length r ≡ record_places → count ≤ 16 → i ≤ count → l ≡ with_segments r (take i segments) → length l ≡ record_places
  long r l i size few h e = ap length e ∙ with_length r size (take i segments) (omega (arith, done_is i h, h, few))

  -- .. and after the last turn
  all : (i : ℕ) → count ≤ i → take i segments ≡ segments
  all i h = take_all i segments (omega (arith, count_is, h))

pub loop-i-init : goal.loop-i-init
loop-i-init c = (omega arith, c.requires.4, refl, sym (with_none c.args.«record».now))

pub side_figures-f-requires : goal.side_figures-f-requires
side_figures-f-requires c =
    let l = c.loop-i in
    let e = c.args.e in
    let r = next_at e.at e.count (enough e c.requires.3) l.i c.loop-i-test.true l.invariant.1 in
    (c.requires.1, record { from_1 = l.invariant.0; rises = r.rises; to_n = r.to_n }, c.requires.2)

pub write_segment-requires : goal.write_segment-requires
write_segment-requires c =
    let m = c.side_figures-f.ensures.small in
    let l = c.loop-i in
    let a = c.args in
    let room = enough a.e c.requires.3 in
    let r = next_at a.e.at a.e.count room l.i c.loop-i-test.true l.invariant.1 in
    let traces = side_traces a.leaf a.marks.now a.mark in (
      long a.e.at a.e.count room traces a.«record».now l.«record» l.i c.requires.0 c.requires.3.few (omega arith) l.invariant.3,
      omega (arith, c.requires.3.few, c.loop-i-test.true),
      omega (arith, r.to_n, c.requires.1.narrow),
      omega (arith, m.least_scatter_lem),
      omega (arith, m.greatest_scatter_lem),
    )

pub overflow_add-first : goal.overflow_add-first
overflow_add-first c =
    let e = c.args.e in
    let r = next_at e.at e.count (enough e c.requires.3) c.loop-i.i c.loop-i-test.true c.loop-i.invariant.1 in
    omega (arith, r.to_n, c.requires.1.narrow)

pub loop-i-preserved : goal.loop-i-preserved
loop-i-preserved c =
    let g = c.args in
    let l = c.loop-i in
    let end = get_or g.e.at l.i 0 in
    let f = c.side_figures-f.result in
    let m = c.side_figures-f.ensures.small in
    let r = g.«record».now in
    let room = enough g.e c.requires.3 in
    let traces = side_traces g.leaf g.marks.now g.mark in
    let whole = segments g.e.at g.e.count room traces in
    let done = done_is g.e.at g.e.count room traces l.i (omega arith) in
    let new : Segment = segment_of traces (run l.first end) in
    let p = passed_more whole l.i new (segments_from (end + 1) (drop (l.i + 1) (take g.e.count g.e.at)) traces)
    (sym l.invariant.2 ∙ segment_next g.e.at g.e.count room l.i c.loop-i-test.true l.first traces) in
    let after : c.write_segment.new.record ≡ with_segment l.«record» l.i
    (segment_of_parts end (read w64 f.least_sum) (read w64 f.greatest_sum) f.least_scatter f.greatest_scatter) = c.write_segment.ensures in
    let same : segment_of_parts end (read w64 f.least_sum) (read w64 f.greatest_sum) f.least_scatter f.greatest_scatter
    ≡ new = rw (least_back f m, greatest_back f m) c.side_figures-f.ensures.result_value in
    let more : with_segment l.«record» l.i new ≡ with_segments r (take (l.i + 1) whole) =
    ap₂ (λ (w : List ℤ) (j : ℕ). with_segment w j new) l.invariant.3 (sym done)
    ∙ (with_more r c.requires.0 (take l.i whole) new (omega (arith, done, c.loop-i-test.true, c.requires.3.few))
    ∙ (ap (with_segments r) (sym p.0) ∙ ap (λ (j : ℕ). with_segments r (take j whole)) (sym (add-one l.i)))) in (
      omega arith,
      (next_at g.e.at g.e.count room l.i c.loop-i-test.true l.invariant.1).on,
      sym p.1 ∙ ap (λ (j : ℕ). drop j whole) (sym (add-one l.i)),
      after ∙
          (ap (with_segment l.«record» l.i) same ∙ more),
    )

pub shape_of-record : goal.shape_of-record
shape_of-record c =
    let l = c.loop-i in
    let a = c.args in
    let traces = side_traces a.leaf a.marks.now a.mark in
    long a.e.at a.e.count (enough a.e c.requires.3) traces a.«record».now l.«record» l.i c.requires.0 c.requires.3.few c.loop-i.auto.i-end l.invariant.3 ∙ sym c.requires.0

pub returns : goal.returns
returns c =
    let a = c.args in
    let traces = side_traces a.leaf a.marks.now a.mark in
    c.loop-i.invariant.3 ∙ ap (with_segments a.«record».now) (all a.e.at a.e.count (enough a.e c.requires.3) traces c.loop-i.i c.loop-i-test.false)
