-- What is known of an answer by the call's equation alone: the leaves that it tells are in the trails. And the part that goes with it.
use Prim.Native.Nat.{ℕ, ◌+◌, ◌≤◌}
use mathlib.Core.Path.{◌≡◌, refl, sym, ap, subst}
use mathlib.Core.List.{List}
use native.Mathlib.Omega.{arith}
use lib.ListN.{length, length-take}
use Rattle.dstree.specs.Measures.{Trace}
use Rattle.dstree.specs.Refusals as word
use Rattle.dstree.specs.Refusals.{first_of}
use Rattle.dstree.specs.Pair.{of_factory, by_which, PairMatch, pair_by_steps, paired_with}
use Rattle.dstree.specs.Book.{Answer, answering, refusing, pairing, paired, beside_of}
use Rattle.dstree.proofs.PairRead.{pair_steps}
use Rattle.tables.specs.Tables.{Tables}
use Rattle.calls.specs.Outcome.{Outcome, outcome}
use Rattle.calls.specs.Effects.{other_in, pairs, effect_of, outcome_on}
use Rattle.calls.proofs.OffTrail.{answered}
use Rattle.pair_search.specs.BothSearched.{indexed_in, pair_match_by}
use Rattle.pairing.specs.Answered.{answer_by, leaves_by, factory_leaves_by}
use Rattle.pairing.specs.Parts.{LentPart, stored_part, part_by, HandedBack}
use Rattle.std.specs.Prelude.{Result, Ok, Err}
use Rattle.tables.specs.declared.Refusal.{Refusal}
use Rattle.pair_search.specs.declared.turns.Whose.{Whose}
use Rattle.pairing.specs.declared.Paired.{Paired}

-- ---- the leaves

module _ (F B : Tables) (query : Trace) (trail₀ bench_trail₀ : List ℕ) (after : Tables) (beside : List (List ℕ)) where
  -- this is what the call answers
  abbrev Says : Answer → Type 0
  Says answer = outcome answer after beside ≡ outcome_on (pairing of_factory (other_in B bench_trail₀) query trail₀) F

  by_steps : (m : PairMatch) → Says (answering (paired m)) → pair_by_steps (indexed_in F) (indexed_in B) query ≡ m
  unfolding outcome_on effect_of pairs paired_with other_in
  by_steps m e =
      let effect = pairs F of_factory (other_in B bench_trail₀) query trail₀ in
      let s = (answered (first_of effect.conditions) F (beside_of (pairing of_factory (other_in B bench_trail₀) query trail₀)) effect (paired m)
      (sym (ap (λ (o : Outcome). o.answer) e))).1 in
      cc

  -- "counts are over both"
  counted : (m : PairMatch) → Says (answering (paired m)) → m.leaves ≡ length m.factory_trail + length m.bench_trail
  counted m e =
      subst (λ (x : PairMatch). x.leaves ≡ length x.factory_trail + length x.bench_trail) (by_steps m e)
      (pair_steps (indexed_in F) (indexed_in B) query).leaves_counted

  module _ (trail bench_trail : List ℕ) where
    in_trails : (library : Whose) (trace distance leaves bench_leaves traces : ℕ)
        → Says (answering (paired (pair_match_by library trace distance leaves bench_leaves traces trail bench_trail)))
        → (leaves ≤ length trail) × (leaves + bench_leaves ≤ length trail + length bench_trail)
    in_trails library trace distance leaves bench_leaves traces e =
        let c = counted (pair_match_by library trace distance leaves bench_leaves traces trail bench_trail) e in
        let a = length-take leaves trail in
        let b = length-take bench_leaves bench_trail in
        (omega (arith, a, b, c), omega (arith, a, b, c))

    pub leaves_in : (found : Result Paired Refusal) → Says (answer_by found trail bench_trail)
        → (factory_leaves_by found ≤ length trail) × (leaves_by found ≤ length trail + length bench_trail)
    unfolding answer_by leaves_by factory_leaves_by
    leaves_in (Ok p) e = in_trails p.library p.trace p.distance p.leaves p.bench_leaves p.traces e
    leaves_in (Err why) e = (omega arith, omega arith)

-- ---- the part

no_refusal : {X : Type 0} (m : PairMatch) (why : word.Refusal) → answering (paired m) ≡ refusing why → X
no_refusal m why e = let z : ◌≡◌ {A = ℕ} 0 1 = cc in absurd (omega arith)

same_match : (m k : PairMatch) → answering (paired m) ≡ answering (paired k) → m ≡ k
same_match m k e = cc

module _ (trail bench_trail : List ℕ) (factory bench : LentPart) (n : ℕ) where
  pub handed_back : (found : Result Paired Refusal) → HandedBack (answer_by found trail bench_trail) factory bench n (part_by found factory bench n)
  unfolding answer_by part_by
  handed_back (Ok p) = record {
    winner = λ m e. ap (λ (x : PairMatch). stored_part (by_which x.which factory bench) n x.trace) (same_match _ m e);
    refusal = λ why e. no_refusal _ why e;
  }
  handed_back (Err why) = record { winner = λ m e. no_refusal m _ (sym e); refusal = λ w e. refl }
