-- The conditions of a match over two libraries: the factory's tables decide first, then the bench's, then both together. Where none holds,
-- both may be searched.
use Prim.Native.Nat.{ℕ, ◌≤◌}
use mathlib.Core.Path.{◌≡◌, sym, ◌∙◌}
use mathlib.Core.Bool.{not}
use mathlib.Core.Option.{none}
use mathlib.Core.List.{List, ◌++◌}
use lib.ListN.{length}
use lib.Dec.{eqb, ltb}
use borrow.Author.Tests.{not-false, eqb-true, ltb-false}
use Rattle.integer.proofs.Tests.{neither}
use Rattle.segment.specs.Limits.{sample_most, SamplesWithin}
use Rattle.dstree.specs.Measures.{Trace, sample_limit, are_samples, work_needed}
use Rattle.dstree.specs.Matching.{leaves}
use Rattle.dstree.specs.Refusals.{Condition, first_of, unlike_libraries, wrong_trace, sample_range, empty, short_trail}
use Rattle.dstree.specs.Pair.{of_factory, pair_rest, pair_conditions}
use Rattle.dstree.proofs.Conditions.{first_none, none_first, none_both}
use Rattle.tables.specs.Tables.{Tables, measures_of, trace_count, node_count}
use Rattle.tables.specs.View.{tree_in, traces_in, kinds_named, well_formed}
use Rattle.tables.specs.Answers.{found_by, made_conditions}
use Rattle.tables.specs.declared.Refusal.{Refusal}
use Rattle.std.specs.Prelude.{Err}
use Rattle.tables.proofs.Views.{traces_size}
use Rattle.tables.proofs.Judged.{accepted}
use Rattle.tables.proofs.Samples.{samples_inside_lem}
use Rattle.well_formed.proofs.Refused.{refused_first}
use Rattle.calls.specs.Effects.{other_in, pairs}
use Rattle.search.specs.Searched.{without_work}
use Rattle.pair_search.specs.BothSearched.{SideReady}
use Rattle.query_judging.specs.LeafCount.{leaf_count}
use Rattle.query_judging.proofs.Counted.{leaves_counted}

-- what holds of one library of which nothing is refused, whatever the search work holds
pub record SideAccepted (t : Tables) (query : Trace) (trail : List ℕ) : Type 0 where
  pub work_room : work_needed (measures_of t) ≤ length t.work
  pub ready : SideReady (without_work t.control t.samples t.nodes t.links) query (length trail)

side_accepted : (t : Tables) (query : Trace) (trail : List ℕ) → first_of (made_conditions t) ≡ none → length query ≡ (measures_of t).n
    → length (leaves (tree_in t)) ≤ length trail → SideAccepted t query trail
unfolding well_formed kinds_named tree_in sample_limit
side_accepted t query trail fine as_long room =
    let ok = accepted t fine in
    record {
      work_room = ok.room.work_room;
      ready = record { formed = ok.formed; long = ok.room.long; same_length = as_long; trail_long = room };
    }

-- .. of both
pub record PairAccepted (F B : Tables) (query : Trace) (trail trail' : List ℕ) : Type 0 where
  pub inside : SamplesWithin sample_most query
  pub factory : SideAccepted F query trail
  pub bench : SideAccepted B query trail'

module _ (F B : Tables) (query : Trace) (trail trail' : List ℕ) where
  abbrev all : List Condition
  all = (pairs F of_factory (other_in B trail') query trail).conditions

  -- of both together, with so many traces and leaves
  abbrev own : ℕ → ℕ → ℕ → ℕ → List Condition
  own count count' many many' = pair_conditions (measures_of F).n (measures_of B).n count count' many many' query trail trail'

  abbrev own_in : List Condition
  own_in = own (length (traces_in F)) (length (traces_in B)) (length (leaves (tree_in F))) (length (leaves (tree_in B)))

  -- .. counted in the control records and record by record
  abbrev own_counted : List Condition
  own_counted = own (trace_count F) (trace_count B) (leaf_count F.nodes (node_count F) 0) (leaf_count B.nodes (node_count B) 0)

  pub factory_refused : (why : Refusal) → found_by (Err why) ≡ first_of (made_conditions F) → found_by (Err why) ≡ first_of all
  unfolding pairs other_in pair_rest
  factory_refused why e = refused_first (made_conditions F) (made_conditions B ++ own_in) why e

  module _ (fine : first_of (made_conditions F) ≡ none) where
    pub bench_refused : (why : Refusal) → found_by (Err why) ≡ first_of (made_conditions B) → found_by (Err why) ≡ first_of all
    unfolding pairs other_in pair_rest
    bench_refused why e =
        refused_first (made_conditions B) own_in why e ∙ sym (first_none (made_conditions F) (made_conditions B ++ own_in) fine)

    pub own_decides : first_of (made_conditions B) ≡ none → first_of all ≡ first_of own_counted
    unfolding pairs other_in pair_rest
    own_decides fine' =
        first_none (made_conditions F) (made_conditions B ++ own_in) fine
        ∙ (first_none (made_conditions B) own_in fine'
        ∙ rw (traces_size F, traces_size B, leaves_counted F, leaves_counted B))

  pub may_search : first_of all ≡ none → PairAccepted F B query trail trail'
  unfolding pairs other_in pair_rest sample_limit
  may_search e =
      let f = none_both (made_conditions F) (made_conditions B ++ own_in) e in
      let b = none_both (made_conditions B) own_in f.1 in
      let one = none_first (not (eqb (measures_of F).n (measures_of B).n)) unlike_libraries _ b.1 in
      let two = none_first (not (eqb (length query) (measures_of F).n)) wrong_trace _ one.1 in
      let three = none_first (not (are_samples query)) sample_range _ two.1 in
      let four = none_first _ empty _ three.1 in
      let five = none_first _ short_trail _ four.1 in
      let short = neither (ltb (length trail) (length (leaves (tree_in F)))) (ltb (length trail') (length (leaves (tree_in B)))) five.0 in
      let as_long = eqb-true (length query) (measures_of F).n (not-false _ two.0) in
      let alike = eqb-true (measures_of F).n (measures_of B).n (not-false _ one.0) in
      record {
        inside = samples_inside_lem query (not-false _ three.0);
        factory = side_accepted F query trail f.0 as_long (ltb-false _ _ short.0);
        bench = side_accepted B query trail' b.0 (as_long ∙ alike) (ltb-false _ _ short.1);
      }
