-- `clipping::judging::is_crossed` meets its contract: those from a place on are crossed exactly if all are (`Crossed`).
use mathlib.Core.Path.{◌≡◌, refl, sym, ◌∙◌}
use mathlib.Core.Bool.{◌||◌}
use Prim.Native.Nat.{ℕ, suc}
use native.Mathlib.Numerals.{add-one}
use native.Mathlib.Omega.{arith}
use lib.IntN.{pos}
use lib.ListN.{get_or, drop}
use lib.Signed.{lt_z}
use Rattle.segment.specs.Clipped.{is_crossed}
use Rattle.segment.proofs.Steps.{read_plain}
use Rattle.clipping.proofs.Crossed.{crossed_next, crossed_none}
use Rattle.clipping.proofs.judging.is_crossed.Goals as goal

-- a turn: what is still to come, and what the test compares
module _ (c : goal.Then-highs-i) where
  abbrev turn : goal.Then-highs-i
  turn = c

  abbrev i : ℕ
  i = turn.loop-i.i

  abbrev s : goal.Then-highs-i
  s = turn

  step : is_crossed s.args.lows.now s.args.highs.now
      ≡ (lt_z (get_or s.args.highs.now i (pos 0)) (get_or s.args.lows.now i (pos 0))
      || is_crossed (drop (suc i) s.args.lows.now) (drop (suc i) s.args.highs.now))
  step = turn.loop-i.invariant ∙ crossed_next i s.args.lows.now s.args.highs.now turn.loop-i-test.true s.requires

-- a turn: what is still to come, and what the test compares
module _ (c : goal.Else-highs-i) where
  abbrev turn_2 : goal.Else-highs-i
  turn_2 = c

  abbrev i_2 : ℕ
  i_2 = turn_2.loop-i.i

  abbrev s_2 : goal.Else-highs-i
  s_2 = turn_2

  step_2 : is_crossed s_2.args.lows.now s_2.args.highs.now
      ≡ (lt_z (get_or s_2.args.highs.now i_2 (pos 0)) (get_or s_2.args.lows.now i_2 (pos 0))
      || is_crossed (drop (suc i_2) s_2.args.lows.now) (drop (suc i_2) s_2.args.highs.now))
  step_2 = turn_2.loop-i.invariant ∙ crossed_next i_2 s_2.args.lows.now s_2.args.highs.now turn_2.loop-i-test.true s_2.requires

pub loop-i-init : goal.loop-i-init
loop-i-init c = refl

pub offset_bounds-highs-i : goal.offset_bounds-highs-i
offset_bounds-highs-i c = omega (arith, c.loop-i-test.true)

pub bounds-highs-i : goal.bounds-highs-i
bounds-highs-i c = omega (arith, c.loop-i-test.true, c.requires)

pub offset_bounds-lows-i : goal.offset_bounds-lows-i
offset_bounds-lows-i c = omega (arith, c.loop-i-test.true)

pub bounds-lows-i : goal.bounds-lows-i
bounds-lows-i c = omega (arith, c.loop-i-test.true)

pub returns-then-highs-i : goal.returns-then-highs-i
returns-then-highs-i c =
    let taken = rw (read_plain (s c).args.highs.now (i c) c.t8-1.given, read_plain (s c).args.lows.now (i c) c.t11-1.given)
    at c.if-highs-i.true in
    sym (step c ∙ rw taken)

pub loop-i-preserved : goal.loop-i-preserved
loop-i-preserved c =
    let left = rw (read_plain (s_2 c).args.highs.now (i_2 c) c.t8-1.given, read_plain (s_2 c).args.lows.now (i_2 c) c.t11-1.given)
    at c.if-highs-i.false in
    step_2 c ∙ rw (left, add-one)

pub returns : goal.returns
returns c =
    let l = c.loop-i in
    let a = c.args in
    sym (l.invariant ∙ crossed_none l.i a.lows.now a.highs.now (omega arith))
