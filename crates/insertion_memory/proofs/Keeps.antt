-- Adding keeps tables well formed: not only those that adding made, but any that pass the rules, also if somebody altered them.
-- The idea: adding to the tables means insertion into their tree, and that keeps the tree well formed.
use Prim.Native.Nat.{ℕ, suc, ◌+◌, ◌*◌, ◌<◌}
use mathlib.Core.Path.{◌≡◌, refl, sym, ap, subst, ◌∙◌}
use mathlib.Core.Logic.{◌⊎◌, inl, inr}
use mathlib.Core.Bool.{Bool}
use mathlib.Core.List.{List, [], ◌∷◌, ◌++◌, foldl, foldl-append}
use native.Mathlib.Omega.{arith}
use lib.ListN.{length, get_or, take, drop, length-append}
use lib.Seq.{take-suc}
use lib.Dec.{T}
use Rattle.integer.specs.Words.{every}
use Rattle.integer.proofs.Lists.{In, first, later, in_snoc, from_every, every_of}
use Rattle.dstree.specs.Measures.{Trace, Measures, sample_limit, is_trace, samples_needed, records_needed, links_needed}
use Rattle.dstree.specs.Adding.{insertion}
use Rattle.dstree.specs.WellFormed as abstract
use Rattle.dstree.proofs.Formed.{Formed, well_formed_lem}
use Rattle.dstree.proofs.Limits.{trace_length}
use Rattle.dstree.proofs.Keeps.{insertion_formed}
use Rattle.tables.specs.Layout.{control_fields, record_places}
use Rattle.tables.specs.Tables.{Tables, lent_of, measures_of, trace_count}
use Rattle.tables.specs.View.{tree_in, traces_in, well_formed}
use Rattle.insertion_memory.specs.Memory.{added_to}
pub use Rattle.insertion_memory.specs.Takes.{TakesAll}
use Rattle.insertion_memory.proofs.FromTables.{Long, facts}
use Rattle.insertion_memory.proofs.Meaning.{AfterAdding, meaning, well_formed_after}
use Rattle.insertion_memory.proofs.Made.{count_is, long_after}

-- adding keeps tables well formed
pub keeps_well_formed : (t : Tables) (x : Trace) → T (well_formed t) → Long t → T (is_trace sample_limit (measures_of t).n x)
    → trace_count t < (measures_of t).capacity → T (every (is_trace sample_limit (measures_of t).n) (traces_in t)) → T (well_formed (added_to t x))
keeps_well_formed t x w long is_trace_lem room all =
    let m : Measures = measures_of t in
    let f : Formed sample_limit m (length (traces_in t)) (tree_in t) = subst (λ (k : ℕ). Formed sample_limit m k (tree_in t)) (count_is t) (facts t w) in
    let g : Formed sample_limit m (length (traces_in t ++ (x ∷ []))) (insertion m (traces_in t) (tree_in t) x) =
    insertion_formed sample_limit m (traces_in t) (tree_in t) x f (omega (arith, count_is t)) all is_trace_lem in
    let e : length (traces_in t ++ (x ∷ [])) ≡ suc (trace_count t) = omega (arith, count_is t, length-append (traces_in t) (x ∷ [])) in
    well_formed_after t x w long is_trace_lem room (subst (λ (k : ℕ). T (abstract.well_formed_tree sample_limit m k (insertion m (traces_in t) (tree_in t) x))) e (well_formed_lem g))

more_traces : (is : Trace → Bool) (stored : List Trace) (x : Trace) → T (every is stored) → T (is x) → {y : Trace} → In y (stored ++ (x ∷ [])) → T (is y)
more_traces is stored x all one {y} i = by (in_snoc stored i)
  where
    by : In y stored ⊎ (y ≡ x) → T (is y)
    by (inl i) = from_every is stored all i
    by (inr e) = rw e one

-- what any number of addings leaves
pub record AddedAll (t : Tables) (more : List Trace) : Type 0 where
  pub formed : T (well_formed (foldl added_to t more))
  pub long : Long (foldl added_to t more)
  pub measures_stay : measures_of (foldl added_to t more) ≡ measures_of t
  pub trace_count_lem : trace_count (foldl added_to t more) ≡ trace_count t + length more
  pub lengths_stay : lent_of (foldl added_to t more) ≡ lent_of t
  pub work_stays : (foldl added_to t more).work ≡ t.work
  pub labels_stay : (foldl added_to t more).labels ≡ t.labels
  pub control_behind : drop control_fields (foldl added_to t more).control ≡ drop control_fields t.control
  pub samples_behind : drop (samples_needed (measures_of t)) (foldl added_to t more).samples ≡ drop (samples_needed (measures_of t)) t.samples
  pub nodes_behind : let k = records_needed (measures_of t) * record_places in drop k (foldl added_to t more).nodes ≡ drop k t.nodes
  pub links_behind : drop (links_needed (measures_of t)) (foldl added_to t more).links ≡ drop (links_needed (measures_of t)) t.links

-- one adding, and then more of them
after_one : (t : Tables) (x : Trace) (more : List Trace) → AfterAdding t x → AddedAll (added_to t x) more → AddedAll t (x ∷ more)
after_one t x more a r =
    let same = a.measures_stay in
    record {
      formed = r.formed;
      long = r.long;
      measures_stay = r.measures_stay ∙ same;
      trace_count_lem = omega (arith, r.trace_count_lem, a.trace_count_lem);
      lengths_stay = r.lengths_stay ∙ a.lengths_stay;
      work_stays = r.work_stays ∙ a.work_stays;
      labels_stay = r.labels_stay ∙ a.labels_stay;
      control_behind = r.control_behind ∙ a.control_behind;
      samples_behind = behind samples_needed _ _ r.samples_behind ∙ a.samples_behind;
      nodes_behind = behind (λ (m : Measures). records_needed m * record_places) _ _ r.nodes_behind ∙ a.nodes_behind;
      links_behind = behind links_needed _ _ r.links_behind ∙ a.links_behind;
    }
  where
    -- places are counted by the measures, which stay
    behind : {A : Type 0} (need : Measures → ℕ) (l k : List A)
        → drop (need (measures_of (added_to t x))) l ≡ drop (need (measures_of (added_to t x))) k
        → drop (need (measures_of t)) l ≡ drop (need (measures_of t)) k
    behind need l k e = subst (λ (m : Measures). drop (need m) l ≡ drop (need m) k) a.measures_stay e

-- ---- tables that refuse nothing of some traces

module _ {t : Tables} {x : Trace} {more : List Trace} (k : TakesAll t (x ∷ more)) where
  abbrev n : ℕ
  n = (measures_of t).n

  pub first_is : T (is_trace sample_limit n x)
  first_is = from_every (is_trace sample_limit n) (x ∷ more) k.each first

  pub first_size : length x ≡ n
  first_size = trace_length sample_limit n x first_is

  pub takes_first : AfterAdding t x
  takes_first = meaning t x k.formed k.long first_is (omega (arith, k.room))

  -- the first of them is added, and the tables refuse nothing of the others
  pub takes_others : TakesAll (added_to t x) more
  takes_others =
      let a = takes_first in
      let same : n ≡ (measures_of (added_to t x)).n = ap (λ (m : Measures). m.n) (sym a.measures_stay) in
      let all : T (every (is_trace sample_limit n) (traces_in (added_to t x))) = rw a.traces
      (every_of (is_trace sample_limit n) (traces_in t ++ (x ∷ []))
      (λ y i. more_traces (is_trace sample_limit n) (traces_in t) x k.stored first_is i)) in
      let others : T (every (is_trace sample_limit n) more) =
      every_of (is_trace sample_limit n) more (λ y i. from_every (is_trace sample_limit n) (x ∷ more) k.each (later i)) in
      record {
        formed = keeps_well_formed t x k.formed k.long first_is (omega (arith, k.room)) k.stored;
        long = long_after t x k.long a;
        room = omega (arith, k.room, a.trace_count_lem, ap (λ (m : Measures). m.capacity) a.measures_stay);
        stored = subst (λ (j : ℕ). T (every (is_trace sample_limit j) (traces_in (added_to t x)))) same all;
        each = subst (λ (j : ℕ). T (every (is_trace sample_limit j) more)) same others;
      }

-- any number of addings keeps tables well formed, and all else that one adding keeps
pub keeps_all : (t : Tables) (more : List Trace) → TakesAll t more → AddedAll t more
keeps_all t [] k = record {
  formed = k.formed;
  long = k.long;
  measures_stay = refl;
  trace_count_lem = omega arith;
  lengths_stay = refl;
  work_stays = refl;
  labels_stay = refl;
  control_behind = refl;
  samples_behind = refl;
  nodes_behind = refl;
  links_behind = refl;
}
keeps_all t (x ∷ more) k = after_one t x more (takes_first k) (keeps_all (added_to t x) more (takes_others k))

-- once some of them are added, the tables refuse nothing of the rest
pub takes_rest : (t : Tables) (done rest : List Trace) → TakesAll t (done ++ rest) → TakesAll (foldl added_to t done) rest
takes_rest t [] rest k = k
takes_rest t (x ∷ done) rest k = takes_rest (added_to t x) done rest (takes_others k)

-- .. and one more is the next of them
pub one_more : (t : Tables) (traces : List Trace) (i : ℕ) → i < length traces
    → foldl added_to t (take (suc i) traces) ≡ added_to (foldl added_to t (take i traces)) (get_or traces i [])
one_more t traces i inside =
    ap (foldl added_to t) (take-suc traces i [] inside) ∙ foldl-append added_to t (take i traces) (get_or traces i [] ∷ [])
