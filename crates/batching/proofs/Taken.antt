-- Tables and a batch of which nothing is refused may be searched, and the list has as many records as there are queries.
use Prim.Native.Nat.{ℕ, ◌*◌, ◌≤◌}
use mathlib.Core.Path.{◌≡◌, sym, ap, ◌∙◌}
use mathlib.Core.Bool.{true, not}
use mathlib.Core.Option.{none}
use mathlib.Core.List.{List, [], ◌∷◌, ◌++◌}
use native.Mathlib.Nat.{mul-le-mul}
use native.Mathlib.Omega.{arith}
use borrow.Author.Tests.{not-false}
use lib.IntN.{ℤ}
use lib.ListN.{length}
use lib.Dec.{eqb, leb, leb→le, eqb→eq}
use Rattle.integer.proofs.Tests.{passed, is_true, test_true}
use Rattle.segment.specs.Limits.{sample_most, SamplesWithin}
use Rattle.segment.specs.Stored.{samples_of}
use Rattle.segment.proofs.Stored.{samples_length}
use Rattle.dstree.specs.Measures.{Trace, sample_limit, are_samples, work_needed, within}
use Rattle.dstree.specs.Matching.{leaves}
use Rattle.dstree.specs.Refusals.{first_of, bad_batch}
use Rattle.dstree.specs.Batch.{most_queries, is_batch}
use Rattle.dstree.proofs.Conditions.{none_first, none_both}
use Rattle.tables.specs.Layout.{n_place, record_places}
use Rattle.tables.specs.Tables.{Tables, field, measures_of, node_count}
use Rattle.tables.specs.View.{tree_in, kinds_named, well_formed}
use Rattle.tables.specs.Answers.{made_conditions}
use Rattle.tables.proofs.Judged.{accepted}
use Rattle.tables.proofs.Samples.{samples_inside_lem}
use Rattle.tables.proofs.Views.{measures_fit}
use Rattle.calls.specs.Effects.{batch_conditions_in}
use Rattle.calls.proofs.Finds.{run_fits}
use Rattle.search.specs.Searched.{without_work}
use Rattle.batch_leaves.specs.LeavesRead.{Searchable}
use Rattle.query_judging.proofs.Taken.{records_fit}

pub batch_range : (many places : ℕ) → is_batch many places ≡ true → (1 ≤ many) × (many ≤ most_queries)
unfolding is_batch
batch_range many places e =
    let p = passed (within 1 many most_queries) (eqb places many ∷ []) (is_true e) in
    let q = passed (leb 1 many) (leb many most_queries ∷ []) p.0 in
    (leb→le 1 many q.0, leb→le many most_queries q.1)

batch_list : (many places : ℕ) → is_batch many places ≡ true → places ≡ many
unfolding is_batch
batch_list many places e = eqb→eq places many (passed (within 1 many most_queries) (eqb places many ∷ []) (is_true e)).1

-- what `judge_own` requires
pub own_fits : (t : Tables) → first_of (made_conditions t) ≡ none
    → (node_count t * record_places ≤ length t.nodes) × (node_count t ≤ 8192) × (field t.control n_place ≤ 256)
own_fits t fine =
    let r = records_fit t fine in
    (r.0, r.1, (measures_fit t (accepted t fine).formed).n_high)

pub record BatchAccepted (t : Tables) (run : Trace) (many : ℕ) (trail : List ℕ) : Type 0 where
  pub work_room : work_needed (measures_of t) ≤ length t.work
  pub trail_room : length (leaves (tree_in (without_work t.control t.samples t.nodes t.links))) ≤ length trail
  pub inside : SamplesWithin sample_most run
  pub searchable : Searchable (without_work t.control t.samples t.nodes t.links) run many

pub taken : (t : Tables) (many places : ℕ) (run : Trace) (trail : List ℕ)
    → first_of (made_conditions t ++ batch_conditions_in t many places run trail) ≡ none → BatchAccepted t run many trail × (places ≡ many)
unfolding well_formed kinds_named tree_in sample_limit
taken t many places run trail e =
    let parts = none_both (made_conditions t) (batch_conditions_in t many places run trail) e in
    let ok = accepted t parts.0 in
    let zero = none_first (not (is_batch many places)) bad_batch _ parts.1 in
    let asked = run_fits t ((measures_of t).n * many) run trail zero.1 in
    let is_batch_lem = not-false (is_batch many places) zero.0 in
    let range = batch_range many places is_batch_lem in (
      record {
        work_room = ok.room.work_room;
        trail_room = asked.trail_long;
        inside = samples_inside_lem run (test_true (are_samples run) asked.samples);
        searchable = record {
          formed = ok.formed;
          long = ok.room.long;
          some_trace = asked.some_trace;
          run_long = asked.as_long;
          some_query = range.0;
          few = range.1;
        };
      },
      batch_list many places is_batch_lem,
    )

-- words that stand for the run are as many
pub words_searchable : (t : Tables) (run : Trace) (many : ℕ) (words : List ℤ) → samples_of words ≡ run → Searchable t run many
    → Searchable t words many
words_searchable t run many words e s = record {
  formed = s.formed;
  long = s.long;
  some_trace = s.some_trace;
  run_long = sym (samples_length words) ∙ ap length e ∙ s.run_long;
  some_query = s.some_query;
  few = s.few;
}

-- at most 16 times 256
pub run_few : (t : Tables) (run : Trace) (many : ℕ) → Searchable t run many → length run ≤ 4096
run_few t run many s =
    let n = (measures_of t).n in
    let p : n * many ≤ 256 * 16 = mul-le-mul {n₁ = n} {m₁ = many} {n₂ = 256} {m₂ = 16} (measures_fit t s.formed).n_high s.few in
    omega (arith, p, s.run_long)
