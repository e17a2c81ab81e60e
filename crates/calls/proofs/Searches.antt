-- What every search obeys, of whatever measures, traces and tree, and that each does. A further search adds its laws here; what follows of
-- calls on tables and on lists of calls is proved of all at once.
use Prim.Native.Nat.{ℕ, ◌*◌, ◌<◌}
use mathlib.Core.Path.{◌≡◌, refl, sym, ap, subst, ◌∙◌}
use mathlib.Core.Bool.{false, not}
use mathlib.Core.Option.{Option, none, some}
use mathlib.Core.List.{List}
use native.Mathlib.Omega.{arith}
use lib.ListN.{length, take}
use lib.Dec.{T, eqb}
use borrow.Author.Tests.{not-false, eqb-true, eqb-false}
use Rattle.integer.specs.Words.{every}
use Rattle.integer.proofs.Lists.{strict}
use Rattle.dstree.specs.Measures.{Trace, Measures, sample_limit, are_samples}
use Rattle.dstree.specs.Node.{Tree}
use Rattle.dstree.specs.Matching.{Near, Match, Search, searched, match_from, match_by_steps, match_of}
use Rattle.dstree.specs.KNearest.{is_k, SameIn, listed, k_nearest_by_steps}
use Rattle.dstree.specs.Batch.{is_batch, queries_in, near_or_zero, batch_by_steps}
use Rattle.dstree.specs.LeafLimit.{LimitedMatch, match_so_far, limited_by_steps}
use Rattle.dstree.specs.Refusals.{first_of, wrong_trace, sample_range, empty, bad_k, bad_batch, number_of}
use Rattle.dstree.specs.Claims.{ExactTree}
use Rattle.dstree.specs.Book.{AnySearch, Sought, a_match, a_listing, a_batch, a_remote, a_banding, query_conditions, match_seen, match_found, match_search, list_found, list_search}
use Rattle.dstree.specs.Book.{batch_found, batch_search, remote_found, remote_search, band_search, a_limited, limit_found, limit_search, a_clipped, clipped_search, done, accepted, search_of}
use Rattle.dstree.proofs.Conditions.{none_first}
use Rattle.dstree.proofs.Closed.{match_exact}
use Rattle.dstree.proofs.KLaws.{k_nearest_exact}
use Rattle.dstree.proofs.KSteps.{step_claims}
use Rattle.dstree.proofs.BatchLaws.{query_size}
use Rattle.dstree.proofs.BatchClosed.{batch_of_exact}
use Rattle.dstree.proofs.BatchSteps.{batch_off_trail}
use Rattle.dstree.proofs.LimitSteps.{limit_anywhere}
use Rattle.dstree.proofs.OffTrail as trees
use Rattle.calls.specs.Demands.{trail_found}
use Rattle.calls.proofs.OfArguments.{of_arguments, other}

pub record Laws (s : AnySearch) : Type 0 where
  -- it refuses for what it is given
  pub by_arguments : (m : Measures) (count : ℕ) (tree : Tree) → T (every other (s.refuses_own m count tree))
  -- what it answers is neither an opening's answer nor a check's
  pub own_answer : (m : Measures) (traces : List Trace) (codes : List ℕ) (tree : Tree)
      → ((s.steps m traces codes tree).result ≡ done → ⊥) × ((s.steps m traces codes tree).result ≡ accepted → ⊥)
  -- on exact figures, where it refuses nothing, its steps give its closed form
  pub gives : (m : Measures) (traces : List Trace) (codes : List ℕ) (tree : Tree) → ExactTree sample_limit m traces tree
      → first_of (s.refuses_own m (length traces) tree) ≡ none → s.steps m traces codes tree ≡ s.closed m traces codes tree
  -- other traces that are the same on its trail give the same
  pub unmoved : (m : Measures) (stored others : List Trace) (codes : List ℕ) (tree : Tree) (trail : List ℕ)
      → trail_found (s.steps m stored codes tree).result ≡ some trail → SameIn tree trail stored others
      → s.steps m others codes tree ≡ s.steps m stored codes tree

some_of : (k : ℕ) → eqb k 0 ≡ false → 0 < k
some_of k e = strict (omega arith) (λ q. eqb-false k 0 e (sym q))

-- ---- a match

-- what the steps end with is the match that they give
pub seen_is : (s : Search) (best : Option Near) (m : Match) → match_from s best ≡ some m → match_seen s best ≡ m
unfolding match_from near_or_zero
seen_is s (some a) m e = cc
seen_is s none m e = let z : ◌≡◌ {A = ℕ} 0 1 = cc in absurd (omega arith)

module _ (query : Trace) (trail : List ℕ) where
  -- on exact figures the steps see the match
  seen_exact : (m : Measures) (traces : List Trace) (tree : Tree) → ExactTree sample_limit m traces tree
      → first_of (query_conditions m (length traces) tree query trail) ≡ none
      → let s = searched traces tree query in match_seen s s.best ≡ match_of traces tree query
  unfolding match_by_steps
  seen_exact m traces tree exact e =
      let one = none_first (not (eqb (length query) m.n)) wrong_trace _ e in
      let two = none_first (not (are_samples query)) sample_range _ one.1 in
      let three = none_first (eqb (length traces) 0) empty _ two.1 in
      let c = match_exact sample_limit m traces tree exact query (some_of (length traces) three.0)
      (eqb-true (length query) m.n (not-false _ one.0)) in
      let s = searched traces tree query in
      seen_is s s.best _ c.steps_give_it

  match_laws : Laws (match_search query trail)
  unfolding every of_arguments number_of trail_found
  match_laws = record {
    by_arguments = λ m count tree. tt;
    own_answer = λ m traces codes tree. (λ e. let z : ◌≡◌ {A = ℕ} 0 1 = cc in omega arith, λ e. let z : ◌≡◌ {A = ℕ} 0 1 = cc in omega arith);
    gives = λ m traces codes tree exact e. ap (match_found trail) (seen_exact m traces tree exact e);
    unmoved = λ m stored others codes tree read found same.
        let trails : (searched stored tree query).trail ≡ read = cc in
        ap (λ (s : Search). match_found trail (match_seen s s.best))
        (trees.off_trail stored others tree query (subst (λ (l : List ℕ). SameIn tree l stored others) (sym trails) same));
  }

  -- document 02, §8: the remote's is a match
  remote_laws : Laws (remote_search query trail)
  unfolding every of_arguments number_of trail_found
  remote_laws = record {
    by_arguments = λ m count tree. tt;
    own_answer = λ m traces codes tree. (λ e. let z : ◌≡◌ {A = ℕ} 0 1 = cc in omega arith, λ e. let z : ◌≡◌ {A = ℕ} 0 1 = cc in omega arith);
    gives = λ m traces codes tree exact e. ap (remote_found codes trail) (seen_exact m traces tree exact e);
    unmoved = λ m stored others codes tree read found same.
        let trails : (searched stored tree query).trail ≡ read = cc in
        ap (λ (s : Search). remote_found codes trail (match_seen s s.best))
        (trees.off_trail stored others tree query (subst (λ (l : List ℕ). SameIn tree l stored others) (sym trails) same));
  }

-- ---- document 02, §1

list_laws : (k : ℕ) (query : Trace) (trail list : List ℕ) → Laws (list_search k query trail list)
unfolding every of_arguments number_of trail_found k_nearest_by_steps
list_laws k query trail list = record {
  by_arguments = λ m count tree. tt;
  own_answer = λ m traces codes tree. (λ e. let z : ◌≡◌ {A = ℕ} 0 1 = cc in omega arith, λ e. let z : ◌≡◌ {A = ℕ} 0 1 = cc in omega arith);
  gives = λ m traces codes tree exact e.
      let one = none_first (not (is_k k)) bad_k _ e in
      let two = none_first (not (eqb (length query) m.n)) wrong_trace _ one.1 in
      ap (list_found trail list)
      (k_nearest_exact sample_limit m traces tree exact query (eqb-true (length query) m.n (not-false _ two.0)) k).steps_give_it;
  unmoved = λ m stored others codes tree read found same.
      let trails : (listed k stored tree query).trail ≡ read = cc in
      rw ((step_claims k stored tree query).off_trail others (subst (λ (l : List ℕ). SameIn tree l stored others) (sym trails) same));
}

-- ---- document 02, §7

batch_laws : (count : ℕ) (run : Trace) (trail : List ℕ) (list : List Near) → Laws (batch_search count run trail list)
unfolding every of_arguments number_of trail_found
batch_laws count run trail list = record {
  by_arguments = λ m stored tree. tt;
  own_answer = λ m traces codes tree. (λ e. let z : ◌≡◌ {A = ℕ} 0 1 = cc in omega arith, λ e. let z : ◌≡◌ {A = ℕ} 0 1 = cc in omega arith);
  gives = λ m traces codes tree exact e.
      let one = none_first (not (is_batch count (length list))) bad_batch _ e in
      let two = none_first (not (eqb (length run) (m.n * count))) wrong_trace _ one.1 in
      let three = none_first (not (are_samples run)) sample_range _ two.1 in
      let four = none_first (eqb (length traces) 0) empty _ three.1 in
      ap (batch_found trail)
      (batch_of_exact sample_limit m traces tree exact (some_of (length traces) four.0) (queries_in m.n count run)
      (query_size m.n count run (eqb-true (length run) (m.n * count) (not-false _ two.0)))).steps_give_it;
  unmoved = λ m stored others codes tree read found same.
      let queries = queries_in m.n count run in
      let trails : (batch_by_steps stored tree queries).trail ≡ read = cc in
      ap (batch_found trail) (batch_off_trail stored others tree queries (subst (λ (l : List ℕ). SameIn tree l stored others) (sym trails) same));
}

-- ---- document 02, §10

-- its steps are its closed form, and no trace bears on them
band_laws : (query : Trace) (edges list : List ℕ) → Laws (band_search query edges list)
unfolding every of_arguments number_of trail_found
band_laws query edges list = record {
  by_arguments = λ m count tree. tt;
  own_answer = λ m traces codes tree. (λ e. let z : ◌≡◌ {A = ℕ} 0 1 = cc in omega arith, λ e. let z : ◌≡◌ {A = ℕ} 0 1 = cc in omega arith);
  gives = λ m traces codes tree exact e. refl;
  unmoved = λ m stored others codes tree read found same. refl;
}

-- ---- document 02, §12

-- its steps are its closed form on any tree
limit_laws : (most : ℕ) (query : Trace) (trail : List ℕ) → Laws (limit_search most query trail)
unfolding every of_arguments number_of trail_found
limit_laws most query trail = record {
  by_arguments = λ m count tree. tt;
  own_answer = λ m traces codes tree. (λ e. let z : ◌≡◌ {A = ℕ} 0 1 = cc in omega arith, λ e. let z : ◌≡◌ {A = ℕ} 0 1 = cc in omega arith);
  gives = λ m traces codes tree exact e. ap (limit_found trail) (limit_anywhere most traces tree query).steps_give_it;
  unmoved = λ m stored others codes tree read found same.
      let c = limit_anywhere most stored tree query in
      let trails : (match_so_far (limited_by_steps most stored tree query)).trail ≡ read = cc in
      let first : read ≡ take most (searched stored tree query).trail =
      sym trails ∙ ap (λ (l : LimitedMatch). (match_so_far l).trail) c.steps_give_it ∙ c.first_of_trail in
      ap (limit_found trail) (c.off_trail others (subst (λ (l : List ℕ). SameIn tree l stored others) first same));
}

-- ---- document 02, §13

-- it has no steps of its own, and no trail
clipped_laws : (lows highs : Trace) (list : List ℕ) → Laws (clipped_search lows highs list)
unfolding every of_arguments number_of trail_found
clipped_laws lows highs list = record {
  by_arguments = λ m count tree. tt;
  own_answer = λ m traces codes tree. (λ e. let z : ◌≡◌ {A = ℕ} 0 1 = cc in omega arith, λ e. let z : ◌≡◌ {A = ℕ} 0 1 = cc in omega arith);
  gives = λ m traces codes tree exact e. refl;
  unmoved = λ m stored others codes tree read found same. let z : ◌≡◌ {A = ℕ} 0 1 = cc in absurd (omega arith);
}

-- ---- any search

pub laws : (q : Sought) → Laws (search_of q)
laws (a_match query trail) = match_laws query trail
laws (a_listing k query trail list) = list_laws k query trail list
laws (a_batch count run trail list) = batch_laws count run trail list
laws (a_remote query trail) = remote_laws query trail
laws (a_banding query edges list) = band_laws query edges list
laws (a_limited most query trail) = limit_laws most query trail
laws (a_clipped lows highs list) = clipped_laws lows highs list
