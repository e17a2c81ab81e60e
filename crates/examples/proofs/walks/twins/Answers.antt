-- `examples::walks::twins` meets its contract: the two traces stand in one leaf, linked.
use mathlib.Core.Path.{refl}
use mathlib.Core.Logic.{inl, inr}
use mathlib.Core.List.{[], ◌∷◌}
use Prim.Native.Nat.{zero, suc}
use native.Mathlib.Omega.{arith}
use Rattle.integer.specs.Words.{counting}
use Rattle.segment.specs.Stored.{sample_of}
use Rattle.tables.specs.View.{trace_in, numbers_from}
use Rattle.tables.specs.Walk.{Rising}
use Rattle.examples.proofs.walks.twins.Goals as goal

rising : Rising (1 ∷ 0 ∷ []) 2
rising zero h = inr (omega arith, omega arith)
rising (suc zero) h = inl refl
rising (suc (suc s)) h = absurd (omega arith)

pub walk_of-requires : goal.walk_of-requires
walk_of-requires c = record {
  wide = omega arith;
  narrow = omega arith;
  few = omega arith;
  samples_room = omega arith;
  links_room = omega arith;
  rising = rising;
  inside = omega arith;
}

pub returns : goal.returns
unfolding trace_in sample_of counting numbers_from
returns c = c.walk_of.ensures
