-- Document 02, §7, of calls that follow their definitions: what is claimed of any batch, of every memory that the check would accept,
-- whatever made its tables, by the laws of exact trees; and what holds of a batch on any tables.
use Prim.Native.Nat.{ℕ, ◌*◌, ◌<◌}
use mathlib.Core.Path.{◌≡◌, refl, sym, ap, subst, ◌∙◌}
use mathlib.Core.Bool.{not}
use mathlib.Core.Option.{Option}
use mathlib.Core.List.{List, [], ◌∷◌}
use native.Mathlib.Omega.{arith}
use lib.ListN.{length, length-map}
use lib.Seq.{take_all}
use lib.Dec.{T}
use Rattle.integer.proofs.Lists.{Up}
use Rattle.dstree.specs.Measures.{Trace, sample_limit}
use Rattle.dstree.specs.Node.{Tree}
use Rattle.dstree.specs.Matching.{match_of}
use Rattle.dstree.specs.KNearest.{list_places}
use Rattle.dstree.specs.Batch.{is_batch, queries_in, Batch, answer_in, batch_of, near_or_zero, best_among, batch_read, batch_by_steps, StepsClaims}
use Rattle.dstree.specs.Batch.{BatchClaims, OneClaims}
use Rattle.dstree.specs.Sheet.{pieces}
use Rattle.dstree.specs.WellFormed as abstract
use Rattle.dstree.specs.Refusals.{Refusal, first_of, bad_batch}
use Rattle.dstree.specs.Book.{Call, beside_of, batched, Reply, Book, a_batch}
use Rattle.dstree.proofs.Conditions.{none_first, none_both}
use Rattle.dstree.proofs.SheetPieces.{pieces_length}
use Rattle.dstree.proofs.BatchSteps.{steps_of_formed}
use Rattle.dstree.proofs.BatchClosed.{batch_of_exact, one_claims}
use Rattle.dstree.proofs.BatchLaws.{query_size}
use Rattle.tables.specs.Tables.{Tables, measures_of}
use Rattle.tables.specs.View.{tree_in, traces_in}
use Rattle.tables.specs.Beginning.{first_places}
use Rattle.tables.specs.Answers.{made_conditions}
use Rattle.tables.proofs.Views.{traces_size, tree_passes}
use Rattle.tables.proofs.Judged.{accepted}
use Rattle.calls.specs.Trusted.{Trusts}
use Rattle.calls.specs.Effects.{batches, effect_of}
use Rattle.calls.specs.Demands.{trail_found, BatchedIn, BatchesAnywhere, OfAnyBatch}
use Rattle.calls.proofs.Finds.{run_fits}
use Rattle.calls.proofs.Trusted.{tree_is_formed, exact_tree}
use Rattle.calls.proofs.Steps.{reply_is}
use Rattle.calls.proofs.OneCall.{one_call}
use Rattle.calls.proofs.OffTrail.{answered}
use Rattle.calls.proofs.Queries.{Judges, search_gives, gives_there}

-- ---- any memory that the check would accept

module _ {memory : Tables} {b : Book} (k : Trusts memory b) (judges : Call → Option Refusal) (fine : Judges judges memory)
    (some_trace : 0 < length b.traces) (count : ℕ) (run : Trace) (size : length run ≡ b.measures.n * count) where
  abbrev tree : Tree
  tree = tree_in memory

  abbrev queries : List Trace
  queries = queries_in b.measures.n count run

  abbrev m : Batch
  m = batch_of b.traces tree queries

  claimed : BatchClaims b.traces tree queries
  claimed = batch_of_exact sample_limit b.measures b.traces tree (exact_tree k) some_trace queries (query_size b.measures.n count run size)

  steps_claimed : StepsClaims b.traces tree queries
  steps_claimed = steps_of_formed sample_limit b.measures b.traces tree (tree_is_formed k) some_trace queries

  alone : count ≡ 1 → (queries ≡ run ∷ []) × OneClaims b.traces tree run
  unfolding pieces
  alone e =
      let long : length run ≡ b.measures.n * 1 = subst (λ (c : ℕ). length run ≡ b.measures.n * c) e size in
      (rw e (ap (λ (q : Trace). q ∷ []) (take_all b.measures.n run (omega (arith, long)))), one_claims b.traces tree run)

  pub of_any_batch : OfAnyBatch judges b.traces tree b.measures.n count run memory
  unfolding batch_of trail_found
  of_any_batch = record {
    batch_gives = λ lent trail list. search_gives k judges fine (a_batch count run trail list) lent;
    as_alone = refl;
    one_each = length-map queries (λ query. answer_in (match_of b.traces tree query)) ∙ pieces_length b.measures.n count run;
    leaves_are = claimed;
    steps_are = steps_claimed;
    rising = subst (λ (x : Batch). Up 0 x.trail) claimed.steps_give_it steps_claimed.rising;
    counted = refl;
    one_alone = alone;
    others_do_not_bear = λ other differ lent trail list. gives_there k judges fine (a_batch count run trail list) _ refl other differ lent;
  }

-- ---- any tables: what is answered are the steps

pub batches_anywhere : BatchesAnywhere
unfolding effect_of beside_of batch_by_steps
batches_anywhere lent count run trail list memory memory' said f m answers =
    let t = first_places lent memory in
    let e = batches t count run trail list in
    let known = answered (first_of e.conditions) t (trail ∷ list_places list ∷ []) e (batched m)
    (sym (ap (λ (r : Reply). r.answer) (reply_is f)) ∙ answers) in
    let parts = none_both (made_conditions t) _ known.0 in
    let one = none_first (not (is_batch count (length list))) bad_batch _ parts.1 in
    let fits = run_fits t ((measures_of t).n * count) run trail one.1 in
    let formed = subst (λ (n : ℕ). T (abstract.well_formed_tree sample_limit (measures_of t) n (tree_in t))) (sym (traces_size t))
    (tree_passes t (accepted t parts.0).formed) in
    let some_trace : 0 < length (traces_in t) = omega (arith, fits.some_trace, traces_size t) in
    let queries = queries_in (measures_of t).n count run in
    let is : batch_by_steps (traces_in t) (tree_in t) queries ≡ m = cc in
    let read = batch_read (traces_in t) (tree_in t) queries in (
      subst (BatchedIn count run t) is
          (record {
            by_steps = refl;
            steps_are = steps_of_formed sample_limit (measures_of t) (traces_in t) (tree_in t) formed some_trace queries;
            one_each = length-map queries (λ query. near_or_zero (best_among (traces_in t) (tree_in t) query read))
                ∙ pieces_length (measures_of t).n count run;
          }),
      ((one_call _ memory memory' said f).works known.0).1,
    )
