-- What is claimed of any query, of every memory that the check would accept, whatever made its tables: by the laws of exact trees, by what
-- a search does on that memory, or on one that differs from it off the trail.
use Prim.Native.Nat.{ℕ, ◌≤◌, ◌<◌}
use mathlib.Core.Path.{◌≡◌, refl, sym, ap, subst, ◌∙◌}
use mathlib.Core.Option.{Option, none, some}
use mathlib.Core.List.{List, [], map}
use native.Mathlib.Omega.{arith}
use lib.ListN.{length, get_or, length-map}
use Rattle.integer.proofs.Lists.{in_map, in_get_or, least_low, least_in, strict}
use Rattle.segment.specs.Figures.{distance}
use Rattle.dstree.specs.Measures.{Trace, Measures, sample_limit}
use Rattle.dstree.specs.Labels.{Label}
use Rattle.dstree.specs.Node.{Tree}
use Rattle.dstree.specs.Matching.{Match, searched, match_by_steps, least_distance, lowest_at, match_of}
use Rattle.dstree.specs.KNearest.{KNearest, k_nearest_by_steps}
use Rattle.dstree.specs.Claims.{ClaimsOf}
use Rattle.dstree.specs.Refusals.{Refusal, first_of}
use Rattle.dstree.specs.Book.{Lent, searching, Call, call, answering, Reply, reply, Book, Found, Sought, a_match, a_listing, a_limited, search_of}
use Rattle.dstree.specs.Remote.{codes_of}
use Rattle.dstree.proofs.Conditions.{none_both}
use Rattle.dstree.proofs.Closed.{match_exact}
use Rattle.dstree.proofs.Ranks.{list_claims}
use Rattle.dstree.proofs.KLaws.{k_nearest_exact, one_exact}
use Rattle.dstree.proofs.LimitSteps.{limit_anywhere, limit_of_formed}
use Rattle.dstree.proofs.LimitClosed.{limit_of_exact}
use Rattle.dstree.proofs.Search.{LowestAt, lowest}
use Rattle.tables.specs.Tables.{Tables, lent_of, measures_of, trace_count}
use Rattle.tables.specs.View.{tree_in, traces_in, labels_in}
use Rattle.tables.specs.Beginning.{first_places, LentWithin}
use Rattle.tables.specs.Answers.{made_conditions}
use Rattle.tables.proofs.Beginning.{begins_within, first_begins, first_lent}
use Rattle.calls.specs.Trusted.{Trusts}
use Rattle.calls.specs.Effects.{effect_of}
use Rattle.calls.specs.Follows.{Typed, outcome_in, Follows}
use Rattle.calls.specs.Trails.{ByBound, DifferOutside}
use Rattle.calls.specs.Demands.{trail_found, judge_in, OfAnyQuery}
use Rattle.calls.proofs.Trails.{list_by_bound, search_by_bound, match_trail}
use Rattle.calls.proofs.Searches.{laws}
use Rattle.calls.proofs.Trusted.{count_in, exact_tree, part_trusts, part_tree, fine_room}
use Rattle.calls.proofs.OneCall.{one_call}
use Rattle.calls.proofs.OffTrail.{off_trail}

-- ---- the nearest stored trace

-- "the stored trace with the least sum of squared sample differences, the lowest number among equals"
pub record Nearest (stored : List Trace) (query : Trace) (found : Match) : Type 0 where
  pub is_stored : found.trace < length stored
  pub has_distance : distance query (get_or stored found.trace []) ≡ found.distance
  pub is_least : (t : ℕ) → t < length stored → found.distance ≤ distance query (get_or stored t [])
  pub is_lowest : (t : ℕ) → t < found.trace → found.distance < distance query (get_or stored t [])

module _ (stored : List Trace) (tree : Tree) (query : Trace) (some_trace : 0 < length stored) where
  abbrev d : ℕ
  d = least_distance stored query

  least_is : (t : ℕ) → t < length stored → d ≤ distance query (get_or stored t [])
  unfolding least_distance
  least_is t h = least_low (in_map (distance query) (in_get_or stored t [] h))

  low : LowestAt d stored query 0
  unfolding least_distance
  low = lowest d stored query 0 (least_in (map (distance query) stored) (omega (arith, some_trace, length-map stored (distance query))))

  number_is : lowest_at 0 d stored query ≡ low.place
  number_is = low.is ∙ omega arith

  pub nearest : Nearest stored query (match_of stored tree query)
  unfolding match_of
  nearest = record {
    is_stored = omega (arith, number_is, low.inside);
    has_distance = ap (λ (k : ℕ). distance query (get_or stored k [])) number_is ∙ low.at;
    is_least = least_is;
    is_lowest = lower;
  }
    where
      lower : (t : ℕ) → t < lowest_at 0 d stored query → d < distance query (get_or stored t [])
      lower t h =
          let inside : t < length stored = omega (arith, number_is, low.inside) in
          strict (least_is t inside) (λ e. omega (arith, number_is, low.low t inside (sym e)))

-- ---- what a search replies

same_lengths : {set : List ℕ} {these other : Tables} → DifferOutside set these other → lent_of other ≡ lent_of these
same_lengths differ = rw (differ.control_same, differ.nodes_same, differ.links_same, differ.work_same, differ.labels_same, differ.as_long)

-- a memory has the places that a call is lent of another with other samples, as many
pub places_here : {c : Call} {memory other other' : Tables} {said : Reply} {trail : List ℕ} → DifferOutside trail memory other
    → Follows c other said other' → lent_of (first_places c.lent memory) ≡ c.lent
places_here {c} {memory} {other} differ g =
    let within = subst (λ (l : Lent). LentWithin l (lent_of other)) g.has_places
    (begins_within (first_places c.lent other) other (first_begins c.lent other)) in
    first_lent c.lent memory (subst (LentWithin c.lent) (same_lengths differ) within)

-- the call there, as it is made here
pub call_here : (c : Call) (memory : Tables) → lent_of (first_places c.lent memory) ≡ c.lent → Typed c.ask
    → let o = outcome_in c memory in Follows c memory (reply o.answer o.beside) o.after
call_here c memory places typed = record { has_places = places; typed = typed; follows = refl }

-- which refusals by arguments are those of a memory's tables, for the calls that it has places for
abbrev pub Judges : (Call → Option Refusal) → Tables → Type 0
Judges judges memory = (c : Call) → lent_of (first_places c.lent memory) ≡ c.lent → Typed c.ask
    → judges c ≡ none → judge_in memory c ≡ none

-- a search that is not refused gives its closed form, on a memory that the check would accept and on one that differs from it off the trail
module _ {memory : Tables} {b : Book} (k : Trusts memory b) (judges : Call → Option Refusal) (fine : Judges judges memory) (q : Sought) where
  abbrev finds : Found
  finds = (search_of q).closed b.measures b.traces (codes_of b.labels) (tree_in memory)

  abbrev gives : Tables → Type 0
  gives memory = (lent : Lent) (said : Reply) (memory' : Tables) → Follows (call lent (searching q)) memory said memory'
      → judges (call lent (searching q)) ≡ none → said ≡ reply (answering finds.result) finds.beside

  pub search_gives : gives memory
  unfolding effect_of Typed
  search_gives lent said memory' f not_refused =
      let part = first_places lent memory in
      let s = search_of q in
      let here : judge_in memory (call lent (searching q)) ≡ none = fine _ f.has_places tt not_refused in
      let own = none_both (made_conditions part) _ here in
      let begins = first_begins lent memory in
      let room = fine_room k begins own.0 in
      let t = part_trusts k begins room in
      let same = part_tree k begins room in
      let own_here : first_of (s.refuses_own b.measures (length b.traces) (tree_in memory)) ≡ none =
      ap first_of (sym (ap (λ (m : Measures). s.refuses_own m (trace_count part) (tree_in part)) t.measures_are
      ∙ (ap (λ (n : ℕ). s.refuses_own b.measures n (tree_in part)) (count_in t)
      ∙ ap (s.refuses_own b.measures (length b.traces)) same))) ∙ own.1 in
      let is : s.steps (measures_of part) (traces_in part) (codes_of (labels_in part)) (tree_in part) ≡ finds =
      ap (λ (m : Measures). s.steps m (traces_in part) (codes_of (labels_in part)) (tree_in part)) t.measures_are
      ∙ (ap (λ (l : List Trace). s.steps b.measures l (codes_of (labels_in part)) (tree_in part)) t.traces_are
      ∙ (ap (λ (l : List Label). s.steps b.measures b.traces (codes_of l) (tree_in part)) t.labels_are
      ∙ (ap (s.steps b.measures b.traces (codes_of b.labels)) same
      ∙ (laws q).gives b.measures b.traces (codes_of b.labels) (tree_in memory) (exact_tree k) own_here))) in
      ((one_call _ memory memory' said f).works here).0 ∙ ap (λ (x : Found). reply (answering x.result) x.beside) is

  pub gives_there : (trail : List ℕ) → trail_found finds.result ≡ some trail
      → (other : Tables) → DifferOutside trail memory other → gives other
  unfolding Typed
  gives_there trail found other differ lent said other' g not_refused =
      let asks = call lent (searching q) in
      let f = call_here asks memory (places_here differ g) tt in
      let here = search_gives lent _ _ f not_refused in
      off_trail asks memory _ _ f finds.result trail (ap (λ (r : Reply). r.answer) here) found other other' said differ g ∙ here

module _ {memory : Tables} {b : Book} (k : Trusts memory b) (judges : Call → Option Refusal) (fine : Judges judges memory)
    (query : Trace) (size : length query ≡ b.measures.n) where
  abbrev tree : Tree
  tree = tree_in memory

  abbrev c : 0 < length b.traces → ClaimsOf b.traces tree query
  c some_trace = match_exact sample_limit b.measures b.traces tree (exact_tree k) query some_trace size

  -- ---- any query, of whatever the check would accept

  pub of_any_query : 0 < length b.traces → OfAnyQuery judges b.traces tree query memory
  unfolding trail_found match_by_steps k_nearest_by_steps
  of_any_query some_trace =
      let n = nearest b.traces tree query some_trace in
      record {
        bound_at_most = (c some_trace).bound_at_most;
        match_gives = λ lent trail. search_gives k judges fine (a_match query trail) lent;
        by_bound_lem = let s = searched b.traces tree query in
            subst (ByBound tree query) (match_trail s s.best (match_of b.traces tree query) (c some_trace).steps_give_it)
            (search_by_bound tree query b.traces);
        is_stored = n.is_stored;
        has_distance = n.has_distance;
        is_least = n.is_least;
        is_lowest = n.is_lowest;
        others_do_not_bear = λ other differ lent trail. gives_there k judges fine (a_match query trail) _ refl other differ lent;
        out_of_R = (c some_trace).out_of_R;
        contains_R = (c some_trace).contains_R;
        fewest = (c some_trace).fewest;
        R_itself = (c some_trace).R_itself;
        each_k = λ j. record {
          list_gives = λ lent trail list. search_gives k judges fine (a_listing j query trail list) lent;
          list_is = list_claims j b.traces query;
          by_bound_lem = subst (λ (m : KNearest). ByBound tree query m.trail)
              (k_nearest_exact sample_limit b.measures b.traces tree (exact_tree k) query size j).steps_give_it
              (list_by_bound tree query j b.traces);
          leaves_are = k_nearest_exact sample_limit b.measures b.traces tree (exact_tree k) query size j;
          others_do_not_bear = λ other differ lent trail list. gives_there k judges fine (a_listing j query trail list) _ refl other differ lent;
        };
        one_is_match = one_exact sample_limit b.measures b.traces tree (exact_tree k) query size some_trace;
        each_limit = λ most. record {
          limit_gives = λ lent trail. search_gives k judges fine (a_limited most query trail) lent;
          steps_are = limit_anywhere most b.traces tree query;
          best_is = limit_of_formed sample_limit b.measures b.traces tree (exact_tree k).well_formed_lem some_trace query most;
          limit_is = limit_of_exact sample_limit b.measures b.traces tree (exact_tree k) some_trace query size most;
          others_do_not_bear = λ other differ lent trail. gives_there k judges fine (a_limited most query trail) _ refl other differ lent;
        };
      }
