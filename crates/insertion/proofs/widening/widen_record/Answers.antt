-- `insertion::widening::widen_record` meets its contract: after i turns the first i segments are widened, and the rest of the record is as
-- it was (`Widened`), so that the next segment is still readable. The measure is how many are left.
use mathlib.Core.Path.{◌≡◌, refl, sym, ap, ◌∙◌}
use mathlib.Core.List.{List}
use Prim.Native.Nat.{ℕ, suc, ◌+◌, ◌≤◌, ◌<◌}
use native.Mathlib.Omega.{arith}
use native.Mathlib.Numerals.{add-one}
use lib.IntN.{ℤ}
use lib.ListN.{length}
use Rattle.segment.specs.Stored.{samples_of}
use Rattle.segment.proofs.Stored.{samples_length}
use Rattle.dstree.specs.Measures.{Trace}
use Rattle.dstree.specs.Figures.{run}
use Rattle.dstree.specs.Adding.{widen_segment}
use Rattle.tables.specs.Layout.{segments_place, segment_at, record_places}
use Rattle.tables.specs.View.{small_at, segment_in}
use Rattle.insertion.specs.Widening.{start_in, end_in, with_segment, Readable}
use Rattle.insertion.proofs.Widened.{partly, partly_none, partly_length, partly_more, partly_all, end_later, segment_later, readable_later}
use Rattle.insertion.proofs.widening.widen_record.Goals as goal

-- a turn: the next segment is widened
next_partly : (x : Trace) (old l : List ℤ) (i first : ℕ) → segment_at (suc i) ≤ length old → first ≡ start_in old i → l ≡ partly x old i
    → with_segment l i (widen_segment x (run first (end_in l i)) (segment_in l i)) ≡ partly x old (suc i)
next_partly x old l i first room f e = rw (e, f, segment_later x old i room, end_later x old i room) (partly_more x old i room)

-- what a turn of the loop knows of the record at first, and of the record as it is
module _ (x : Trace) (old l : List ℤ) (i n : ℕ) (p : Readable old n) (inside : i < small_at old segments_place) (e : l ≡ partly x old i) where
  room : segment_at (suc i) ≤ length old
  room = omega (arith, inside, p.few, p.size)

  long : length l ≡ record_places
  long = ap length e ∙ (partly_length x old i (omega (arith, room)) ∙ p.size)

  end_is : end_in l i ≡ end_in old i
  end_is = ap (λ (r : List ℤ). end_in r i) e ∙ end_later x old i room

pub small_at-count-requires : goal.small_at-count-requires
small_at-count-requires c = (c.requires.size, omega arith)

pub loop-i-init : goal.loop-i-init
loop-i-init c = (refl, sym (partly_none (samples_of c.args.trace.now.trace.now) c.args.«record».now))

pub small_at-end-requires : goal.small_at-end-requires
small_at-end-requires c =
    let a = c.args in
    let l = c.loop-i in
    let x = samples_of a.trace.now.trace.now in
    let old = a.«record».now in
    let inside : l.i < small_at old segments_place = omega (arith, c.small_at-count.ensures) in
    (long x old l.«record» l.i (length a.trace.now.trace.now) c.requires inside l.invariant.1, omega arith)

pub widen_segment-requires : goal.widen_segment-requires
widen_segment-requires c =
    let a = c.args in
    let l = c.loop-i in
    let x = samples_of a.trace.now.trace.now in
    let old = a.«record».now in
    let inside : l.i < small_at old segments_place = omega (arith, c.small_at-count.ensures) in
    let few = c.requires.few in
    let n = length a.trace.now.trace.now in (
      long x old l.«record» l.i n c.requires inside l.invariant.1,
      omega (arith, inside),
      rw (l.invariant.1, l.invariant.0)
          (readable_later x old l.i (room x old l.«record» l.i n c.requires inside l.invariant.1) (start_in old l.i) n (c.requires.segment l.i inside)),
    )

pub overflow_add-first : goal.overflow_add-first
overflow_add-first c =
    let a = c.args in
    let l = c.loop-i in
    let x = samples_of a.trace.now.trace.now in
    let old = a.«record».now in
    let inside : l.i < small_at old segments_place = omega (arith, c.small_at-count.ensures) in
    let e : c.small_at-end.result ≡ end_in l.«record» l.i = c.small_at-end.ensures in
    let end = e ∙ end_is x old l.«record» l.i (length a.trace.now.trace.now) c.requires inside l.invariant.1 in
    omega (arith, end, (c.requires.segment l.i inside).on.to_n, a.trace.now.summed.few, samples_length a.trace.now.trace.now)

pub loop-i-preserved : goal.loop-i-preserved
loop-i-preserved c =
    let a = c.args in
    let l = c.loop-i in
    let x = samples_of a.trace.now.trace.now in
    let old = a.«record».now in
    let inside : l.i < small_at old segments_place = omega (arith, c.small_at-count.ensures) in
    let e : c.small_at-end.result ≡ end_in l.«record» l.i = c.small_at-end.ensures in
    let first : c.small_at-end.result + 1 ≡ start_in old (l.i + 1) =
    add-one c.small_at-end.result ∙ (ap suc (e ∙ end_is x old l.«record» l.i (length a.trace.now.trace.now) c.requires inside l.invariant.1) ∙ ap (start_in old) (sym (add-one l.i))) in
    let after : c.widen_segment.new.record ≡ with_segment l.«record» l.i (widen_segment x (run l.first (end_in l.«record» l.i)) (segment_in l.«record» l.i)) =
    c.widen_segment.ensures in
    let more : c.widen_segment.new.record ≡ partly x old (l.i + 1) =
    after ∙ (next_partly x old l.«record» l.i l.first (room x old l.«record» l.i (length a.trace.now.trace.now) c.requires inside l.invariant.1) l.invariant.0 l.invariant.1 ∙ ap (partly x old)
    (sym (add-one l.i))) in
    (first, more)

pub shape_of-record : goal.shape_of-record
shape_of-record c =
    let l = c.loop-i in
    let e : c.small_at-count.result ≡ small_at c.args.«record».now segments_place = c.small_at-count.ensures in
    ap length l.invariant.1 ∙ partly_length (samples_of c.args.trace.now.trace.now) c.args.«record».now l.i (omega (arith, c.requires.few, c.requires.size))

pub returns : goal.returns
returns c =
    let l = c.loop-i in
    let e : c.small_at-count.result ≡ small_at c.args.«record».now segments_place = c.small_at-count.ensures in
    let all : l.i ≡ small_at c.args.«record».now segments_place = omega arith in
    l.invariant.1 ∙ (ap (partly (samples_of c.args.trace.now.trace.now) c.args.«record».now) all ∙ partly_all (samples_of c.args.trace.now.trace.now) c.args.«record».now)
