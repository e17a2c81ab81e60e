-- What a search over two libraries leaves is what the definition of the call has: the answer, search work zeroed, both trails' beginnings.
use Prim.Native.Nat.{ℕ}
use mathlib.Core.Path.{◌≡◌, ap, ◌∙◌}
use Rattle.pair_search.specs.declared.turns.Whose.{Whose}
use mathlib.Core.Option.{none}
use mathlib.Core.List.{List, [], ◌∷◌}
use native.Mathlib.Omega.{arith}
use lib.ListN.{length, take}
use Rattle.dstree.specs.Measures.{Trace}
use Rattle.dstree.specs.Refusals.{first_of}
use Rattle.dstree.specs.Pair.{of_factory, PairMatch, pair_by_steps, paired_with}
use Rattle.dstree.specs.Book.{Answer, answering, pairing, paired, pair_beside, beside_of, over}
use Rattle.tables.specs.Tables.{Tables, labelled_tables}
use Rattle.tables.specs.View.{tree_in, traces_in}
use Rattle.calls.specs.Outcome.{outcome}
use Rattle.calls.specs.Effects.{other_in, pairs, effect_of, outcome_on}
use Rattle.calls.proofs.Ends.{ends_done, over_first}
use Rattle.search.specs.Searched.{without_work}
use Rattle.pair_search.specs.BothSearched.{indexed_in, pair_match_by, SideLeft, BothSearched}

-- a trail is its leaves over what stood there
trail_is : (t : Tables) (work work' trail trail' : List ℕ) (out : ℕ) → SideLeft t work work' trail trail' out
    → length trail' ≡ length trail → trail' ≡ over (take out trail') trail
trail_is t work work' trail trail' out s size = over_first out trail trail' (omega (arith, s.within, size)) s.trail_rest

three_same : {a b c a' b' c' : List ℕ} → a ≡ a' → b ≡ b' → c ≡ c' → (a ∷ b ∷ c ∷ []) ≡ (a' ∷ b' ∷ c' ∷ [])
three_same e f g = rw (e, f, g)

module _ (F B : Tables) (query : Trace) (trail bench_trail : List ℕ) where
  -- what the search was lent of a library
  abbrev lent : Tables → Tables
  lent t = without_work t.control t.samples t.nodes t.links

  module _ (work' trail' bench_work' bench_trail' : List ℕ) (library : Whose) (trace distance out bench_out traces : ℕ)
      (size : length trail' ≡ length trail) (bench_size : length bench_trail' ≡ length bench_trail)
      (s : BothSearched (lent F) (lent B) query F.work work' trail trail' B.work bench_work' bench_trail bench_trail'
      library trace distance out bench_out traces) where
    abbrev found : PairMatch
    found = pair_match_by library trace distance out bench_out traces trail' bench_trail'

    found_is : found ≡ pair_by_steps (indexed_in F) (indexed_in B) query
    unfolding traces_in tree_in
    found_is = s.found

    pub found_answer : (answer : Answer) → answer ≡ answering (paired found)
        → first_of (pairs F of_factory (other_in B bench_trail) query trail).conditions ≡ none
        → outcome answer (labelled_tables F.control F.samples F.nodes F.links work' F.labels)
        (trail' ∷ bench_trail' ∷ bench_work' ∷ []) ≡ outcome_on (pairing of_factory (other_in B bench_trail) query trail) F
    unfolding outcome_on effect_of beside_of pairs other_in pair_beside paired_with
    found_answer answer is q =
        ap (λ (x : Answer). outcome x (labelled_tables F.control F.samples F.nodes F.links work' F.labels)
        (trail' ∷ bench_trail' ∷ bench_work' ∷ [])) is
        ∙ ends_done F (trail ∷ bench_trail ∷ B.work ∷ []) (pairs F of_factory (other_in B bench_trail) query trail) _ _ _ q
        (ap paired found_is)
        (ap (λ (w : List ℕ). labelled_tables F.control F.samples F.nodes F.links w F.labels) s.factory.work_zero)
        left
      where
        left : (trail' ∷ bench_trail' ∷ bench_work' ∷ []) ≡ (pairs F of_factory (other_in B bench_trail) query trail).beside
        left =
            three_same
            (trail_is (lent F) F.work work' trail trail' out s.factory size ∙ ap (λ (m : PairMatch). over m.factory_trail trail) found_is)
            (trail_is (lent B) B.work bench_work' bench_trail bench_trail' bench_out s.bench bench_size
            ∙ ap (λ (m : PairMatch). over m.bench_trail bench_trail) found_is)
            s.bench.work_zero
