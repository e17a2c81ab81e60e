-- `examples::walks::nine` meets its contract: 0, 1 and 9 stand in one leaf, each linked to the next.
use mathlib.Core.Path.{refl, ap, ◌∙◌}
use mathlib.Core.Logic.{inl, inr}
use mathlib.Core.List.{[], ◌∷◌}
use Prim.Native.Nat.{zero, suc}
use native.Mathlib.Omega.{arith}
use lib.IntN.{ℤ}
use mir.Facts.{to_z-of_z}
use Rattle.integer.specs.Words.{counting}
use Rattle.segment.specs.Stored.{sample_of}
use Rattle.tables.specs.View.{trace_in, numbers_from}
use Rattle.tables.specs.Walk.{Rising}
use Rattle.tables.specs.Runs.{test_by}
use Rattle.candidate.specs.Parting.{look_of}
use Rattle.examples.specs.Steps.{nine_traces}
use Rattle.examples.proofs.walks.nine.Goals as goal

rising : Rising (1 ∷ 2 ∷ 0 ∷ []) 3
rising zero h = inr (omega arith, omega arith)
rising (suc zero) h = inr (omega arith, omega arith)
rising (suc (suc zero)) h = inl refl
rising (suc (suc (suc s))) h = absurd (omega arith)

pub walk_of-requires : goal.walk_of-requires
walk_of-requires c = record {
  wide = omega arith;
  narrow = omega arith;
  few = omega arith;
  samples_room = omega arith;
  links_room = omega arith;
  rising = rising;
  inside = omega arith;
}

pub returns : goal.returns
unfolding trace_in sample_of counting numbers_from
returns c =
    c.walk_of.ensures
    ∙ ap (λ (z : ℤ). look_of nine_traces (test_by 1 1 c.args.by_scatter z) (0 ∷ 1 ∷ 2 ∷ [])) (to_z-of_z c.ranges.threshold)
