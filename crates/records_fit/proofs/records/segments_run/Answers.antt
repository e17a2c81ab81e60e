-- `records_fit::records::segments_run` meets its contract. The loop's invariant: the whole list holds exactly if the rest does, behind the
-- end before it.
use mathlib.Core.Path.{◌≡◌, sym, ap, ◌∙◌}
use mathlib.Core.Bool.{true, false}
use mathlib.Core.List.{List, ◌∷◌}
use Prim.Native.Nat.{ℕ, ◌+◌, ◌-◌, ◌<◌}
use native.Mathlib.Omega.{arith}
use lib.IntN.{ℤ}
use Rattle.dstree.specs.Measures.{sample_limit}
use Rattle.dstree.specs.Node.{Segment}
use Rattle.dstree.specs.WellFormed.{segment_fits}
use Rattle.tables.specs.View.{segment_in}
use Rattle.records_fit.specs.Fits.{between, segments_in_from, rest_holds}
use Rattle.records_fit.proofs.Segments.{between_yes, from_more, from_none, rest_falls, rest_outside, rest_next, rest_done}
use Rattle.records_fit.proofs.records.segments_run.Goals as goal

-- the rest, taken apart
module _ (places : List ℤ) (count n i before : ℕ) (h : i < count) (whole : rest_holds n before (segments_in_from places (count - i) i) ≡ rest_holds n 0 (segments_in_from places count 0)) where
  abbrev s : Segment
  s = segment_in places i

  apart : rest_holds n 0 (segments_in_from places count 0) ≡ rest_holds n before (s ∷ segments_in_from places (count - (i + 1)) (i + 1))
  apart = sym whole ∙ ap (λ (l : List Segment). rest_holds n before l) (from_more places count i h)

  falls : between before n s.end ≡ false → false ≡ rest_holds n 0 (segments_in_from places count 0)
  falls e = sym (apart ∙ rest_falls n before s (segments_in_from places (count - (i + 1)) (i + 1)) e)

  -- the end is behind the one before it
  module _ (e : before < s.end) where
    outside : segment_fits sample_limit (s.end - before) s ≡ false → false ≡ rest_holds n 0 (segments_in_from places count 0)
    outside f = sym (apart ∙ rest_outside n before s (segments_in_from places (count - (i + 1)) (i + 1)) e f)

    next : segment_fits sample_limit (s.end - before) s ≡ true → rest_holds n s.end (segments_in_from places (count - (i + 1)) (i + 1)) ≡ rest_holds n 0 (segments_in_from places count 0)
    next f = sym (apart ∙ rest_next n before s (segments_in_from places (count - (i + 1)) (i + 1)) e f)

pub returns-then-not-end_behind : goal.returns-then-not-end_behind
returns-then-not-end_behind c =
    let a = c.args in
    let l = c.loop-i in
    falls a.places.now a.count a.n l.i l.before (omega arith) l.invariant.1 (cc)

pub returns-then-not-segment_fits : goal.returns-then-not-segment_fits
returns-then-not-segment_fits c =
    let a = c.args in
    let l = c.loop-i in
    let found = sym c.end_at-end.ensures in
    let inside = between_yes l.before a.n (segment_in a.places.now l.i).end (cc) in
    outside a.places.now a.count a.n l.i l.before (omega arith) l.invariant.1 inside.0 (cc)

pub loop-i-preserved : goal.loop-i-preserved
loop-i-preserved c =
    let a = c.args in
    let l = c.loop-i in
    let found = sym c.end_at-end.ensures in
    let inside = between_yes l.before a.n (segment_in a.places.now l.i).end (cc) in (
      omega (arith, found, inside.1),
      rw (← found) (next a.places.now a.count a.n l.i l.before (omega arith) l.invariant.1 inside.0 (cc)),
    )

pub returns : goal.returns
returns c =
    let l = c.loop-i in
    let a = c.args in
    sym (sym l.invariant.1 ∙ (ap (λ (rest : List Segment). rest_holds a.n l.before rest) (from_none a.places.now a.count l.i (omega arith)) ∙ rest_done a.n l.before))
