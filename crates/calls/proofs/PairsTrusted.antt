-- Two libraries together, on two memories that the check would accept, whatever made their tables. A match over both is judged by both
-- books and gives its closed form; so it does on memories that differ from these off the trails.
use Prim.Native.Nat.{◌+◌, ◌<◌}
use mathlib.Core.Path.{◌≡◌, sym, ap, subst, ◌∙◌}
use mathlib.Core.Option.{Option, none, some}
use mathlib.Core.List.{List, [], ◌++◌}
use lib.ListN.{length}
use lib.Dec.{T}
use borrow.Author.Tests.{eq-eqb, ne_eqb}
use Rattle.integer.proofs.Tests.{test_true}
use Rattle.dstree.specs.Measures.{Trace, sample_limit, are_samples}
use Rattle.dstree.specs.Node.{Tree}
use Rattle.dstree.specs.Refusals.{Refusal, Condition, empty, unlike_libraries, first_of}
use Rattle.dstree.specs.Pair.{Indexed, indexed, PairMatch, pair_by_steps, pair_of, PairClaims}
use Rattle.dstree.specs.Book.{Lent, paired, answering, over, Book, short_conditions}
use Rattle.dstree.proofs.Conditions.{first_none}
use Rattle.dstree.proofs.PairRead.{pair_steps}
use Rattle.dstree.proofs.PairClosed.{pair_of_exact}
use Rattle.tables.specs.Layout.{layout}
use Rattle.tables.specs.Tables.{Tables, lent_of, measures_of}
use Rattle.tables.specs.View.{tree_in}
use Rattle.tables.specs.Beginning.{first_places}
use Rattle.tables.specs.Answers.{made_conditions}
use Rattle.tables.proofs.Beginning.{first_begins}
use Rattle.calls.specs.Trusted.{Trusts}
use Rattle.calls.specs.Trails.{ByBound, DifferOutside}
use Rattle.calls.specs.Pairs.{PairCall, PairSaid, PairFollows, lent_library, together_conditions, pair_conditions_in, judge_both, PairGives}
use Rattle.calls.specs.Pairs.{OfAnyPair, LentEnough, OfBoth, TrustedPairs}
use Rattle.calls.proofs.Trusted.{exact_tree, part_trusts, part_tree, fine_room, trusted_same}
use Rattle.calls.proofs.Trails.{beginning_by_bound}
use Rattle.calls.proofs.Queries.{places_here}
use Rattle.calls.proofs.Pairs.{said_by, outcome_f, call_both, refuses, works, steps_said, fine_f, fine_b}
use Rattle.calls.proofs.PairsOffTrail.{pairs_off_trail}

-- one library's places that a call is lent, if its tables are not refused
lent_is : {memory : Tables} {b : Book} → Trusts memory b → (lent : Lent) → first_of (made_conditions (first_places lent memory)) ≡ none
    → lent_library lent memory ≡ indexed b.traces (tree_in memory)
lent_is {memory} k lent e =
    let begins = first_begins lent memory in
    let room = fine_room k begins e in
    λ i. indexed ((part_trusts k begins room).traces_are i) (part_tree k begins room i)

module _ {factory bench : Tables} {bf bb : Book} (kf : Trusts factory bf) (kb : Trusts bench bb) where
  abbrev lf : Indexed
  lf = indexed bf.traces (tree_in factory)

  abbrev lb : Indexed
  lb = indexed bb.traces (tree_in bench)

  abbrev judges : PairCall → Option Refusal
  judges = judge_both bf (tree_in factory) bb (tree_in bench)

  -- ---- refusals

  module _ (p : PairCall) where
    abbrev f : Tables
    f = first_places p.factory_lent factory

    abbrev b : Tables
    b = first_places p.bench_lent bench

    abbrev of_books : List Condition
    of_books = together_conditions p bf.measures.n lf bb.measures.n lb

    abbrev of_tables : List Condition
    of_tables = together_conditions p (measures_of f).n (lent_library p.factory_lent factory) (measures_of b).n (lent_library p.bench_lent bench)

    same_together : Trusts f bf → Trusts b bb → first_of of_tables ≡ first_of of_books
    same_together t u =
        let tree_f = part_tree kf (first_begins p.factory_lent factory) t.room in
        let tree_b = part_tree kb (first_begins p.bench_lent bench) u.room in
        λ i. first_of (together_conditions p (t.measures_are i).n (indexed (t.traces_are i) (tree_f i)) (u.measures_are i).n
        (indexed (u.traces_are i) (tree_b i)))

    judged_same : lent_of f ≡ p.factory_lent → lent_of b ≡ p.bench_lent → first_of (pair_conditions_in p factory bench) ≡ judges p
    judged_same places places' =
        trusted_same kf (first_begins p.factory_lent factory) (made_conditions b ++ of_tables)
        (short_conditions layout (lent_of b) bb.measures ++ of_books)
        (λ t. trusted_same kb (first_begins p.bench_lent bench) of_tables of_books (same_together t))
        ∙ (λ i. first_of (short_conditions layout (places i) bf.measures ++ (short_conditions layout (places' i) bb.measures ++ of_books)))

    -- behind 2 of either
    behind : LentEnough bf bb p → judges p ≡ first_of of_books
    behind long = first_none (short_conditions layout p.factory_lent bf.measures) _ long.0
        ∙ first_none (short_conditions layout p.bench_lent bb.measures) of_books long.1

    unlike : LentEnough bf bb p → (bf.measures.n ≡ bb.measures.n → ⊥) → judges p ≡ some unlike_libraries
    unfolding first_of
    unlike long apart = behind long ∙ rw (ne_eqb bf.measures.n bb.measures.n apart)

    both_empty : LentEnough bf bb p → bf.measures.n ≡ bb.measures.n → length p.query ≡ bf.measures.n → T (are_samples p.query)
        → bf.traces ≡ [] → bb.traces ≡ [] → judges p ≡ some empty
    unfolding first_of
    both_empty long same size samples none_f none_b = behind long ∙ rw (
      eq-eqb bf.measures.n bb.measures.n same,
      eq-eqb (length p.query) bf.measures.n size,
      test_true (are_samples p.query) samples,
      none_f,
      none_b,
    )

  here : (p : PairCall) (s : PairSaid) → PairFollows p factory bench s → first_of (pair_conditions_in p factory bench) ≡ judges p
  here p s follows = judged_same p follows.in_factory_lem.has_places follows.in_bench_lem.has_places

  -- ---- any query

  module _ (query : Trace) (same : bf.measures.n ≡ bb.measures.n) (size : length query ≡ bf.measures.n)
      (some_trace : 0 < length bf.traces + length bb.traces) where
    claims : PairClaims lf lb query
    claims = pair_of_exact sample_limit bf.measures bb.measures lf lb (exact_tree kf) (exact_tree kb) same query size some_trace

    pair_gives : PairGives judges query factory bench (pair_of lf lb query)
    pair_gives p s q follows not_refused =
        let fine = here p s follows ∙ not_refused in
        let in_f = lent_is kf p.factory_lent (fine_f p factory bench fine) in
        let in_b = lent_is kb p.bench_lent (fine_b p factory bench fine) in
        let is : pair_by_steps (lent_library p.factory_lent factory) (lent_library p.bench_lent bench) p.query ≡ pair_of lf lb query =
        (λ i. pair_by_steps (in_f i) (in_b i) (q i)) ∙ claims.steps_give_it in
        let m = steps_said p factory bench s follows fine in (
          works p factory bench s follows fine ∙ ap (λ (x : PairMatch). answering (paired x)) is,
          (
            m.factory_trail_lem ∙ ap (λ (x : PairMatch). over x.factory_trail p.factory_trail) is,
            m.bench_trail_lem ∙ ap (λ (x : PairMatch). over x.bench_trail p.bench_trail) is,
          ),
        )

    others_do_not_bear : (other_factory other_bench : Tables) → DifferOutside (pair_of lf lb query).factory_trail factory other_factory
        → DifferOutside (pair_of lf lb query).bench_trail bench other_bench → PairGives judges query other_factory other_bench (pair_of lf lb query)
    others_do_not_bear other_factory other_bench differ_f differ_b p s q follows not_refused =
        let own = call_both p factory bench (places_here differ_f follows.in_factory_lem) (places_here differ_b follows.in_bench_lem) in
        let gives = pair_gives p (said_by (outcome_f p factory bench)) q own not_refused in
        let m : PairMatch = pair_of lf lb query in
        subst (λ (x : PairSaid). (x.answer ≡ answering (paired m))
        × ((x.factory_trail ≡ over m.factory_trail p.factory_trail) × (x.bench_trail ≡ over m.bench_trail p.bench_trail)))
        (sym (pairs_off_trail p factory bench _ own m gives.0 other_factory other_bench s differ_f differ_b follows)) gives

    of_any_pair : OfAnyPair judges lf lb query factory bench
    of_any_pair =
        let steps = pair_steps lf lb query in
        record {
          pair_gives = pair_gives;
          claims = claims;
          factory_by_bound = subst (λ (x : PairMatch). ByBound (tree_in factory) query x.factory_trail) claims.steps_give_it
              (beginning_by_bound (tree_in factory) query steps.factory_in_order);
          bench_by_bound = subst (λ (x : PairMatch). ByBound (tree_in bench) query x.bench_trail) claims.steps_give_it
              (beginning_by_bound (tree_in bench) query steps.bench_in_order);
          factory_empty = λ e. subst (PairGives judges query factory bench) (claims.factory_empty e) pair_gives;
          bench_empty = λ e. subst (PairGives judges query factory bench) (claims.bench_empty e) pair_gives;
          others_do_not_bear = others_do_not_bear;
        }

  -- ---- all that is claimed

  of_both : OfBoth bf (tree_in factory) bb (tree_in bench) factory bench
  of_both = record {
    judged = λ p s follows why e. refuses p factory bench s follows why (here p s follows ∙ e);
    unlike = λ p s follows long apart. refuses p factory bench s follows unlike_libraries (here p s follows ∙ unlike p long apart);
    both_empty = λ p s follows long same size samples none_f none_b. refuses p factory bench s follows empty
        (here p s follows ∙ both_empty p long same size samples none_f none_b);
    any_query = of_any_pair;
  }

pub trusted_pairs : TrustedPairs
trusted_pairs factory bench bf bb tf tb kf tree_f kb tree_b =
    subst (λ (t : Tree). OfBoth bf t bb tb factory bench) tree_f
    (subst (λ (t : Tree). OfBoth bf (tree_in factory) bb t factory bench) tree_b (of_both kf kb))
