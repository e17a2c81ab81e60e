-- Two libraries together, on their memories. What one contract says is a step of the factory's list and of the bench's; and what a match
-- over both does on any two memories, whatever they hold.
use Prim.Native.Nat.{ℕ, suc, ◌+◌, ◌*◌, ◌≤◌, ◌<◌}
use mathlib.Core.Path.{◌≡◌, refl, sym, ap, subst, ◌∙◌}
use mathlib.Core.Bool.{not}
use mathlib.Core.Option.{Option, none, some}
use mathlib.Core.List.{List, [], ◌∷◌}
use native.Mathlib.Omega.{arith}
use native.Mathlib.Nat.{mul-le-mul_right, pos_of_ne-zero}
use lib.ListN.{length, get_or, drop, length-drop}
use lib.Seq.{length-take-le}
use lib.Dec.{T, eqb}
use borrow.Author.Tests.{not-false, eqb-true, eqb-false}
use Rattle.dstree.specs.Measures.{Trace, sample_limit, samples_needed, are_samples}
use Rattle.dstree.specs.Refusals.{Refusal, wrong_trace, sample_range, empty, unlike_libraries, first_of}
use Rattle.dstree.specs.WellFormed as abstract
use Rattle.dstree.specs.Pair.{Indexed, Which, of_factory, of_bench, by_which, PairMatch, pair_rest, paired_with, pair_by_steps, PairAnswered}
use Rattle.dstree.specs.Book.{pairing, paired, pair_beside, beside_of, Answer, refusing, answering, Reply, reply}
use Rattle.dstree.proofs.Conditions.{none_first, none_both}
use Rattle.dstree.proofs.PairRead.{pair_steps}
use Rattle.dstree.proofs.PairFormed.{pair_of_formed}
use Rattle.tables.specs.Tables.{Tables, lent_of, measures_of, trace_count}
use Rattle.tables.specs.View.{trace_in, tree_in, traces_in}
use Rattle.tables.specs.Beginning.{first_places, left}
use Rattle.tables.specs.Answers.{made_conditions}
use Rattle.tables.proofs.Views.{traces_size, trace_at, tree_passes, tree_formed}
use Rattle.tables.proofs.Judged.{Accepted, accepted}
use Rattle.calls.specs.Outcome.{Effect, Outcome, outcome, unless_refused}
use Rattle.calls.specs.Effects.{other_in, pairs, effect_of, outcome_on}
use Rattle.calls.specs.Follows.{Typed}
use Rattle.calls.specs.Demands.{OneCall}
use Rattle.calls.specs.Pairs.{PairCall, in_factory_list, in_bench_list, PairSaid, with_work, factory_after, bench_after, PairFollows, JoinsBoth}
use Rattle.calls.specs.Pairs.{lent_library, together_conditions, pair_conditions_in, PartIs, PairMatched, PairedIn, PairsAnywhere}
use Rattle.calls.proofs.Trails.{beginning_by_bound}
use Rattle.calls.proofs.Steps.{reply_is}
use Rattle.calls.proofs.OneCall.{one_call}
use Rattle.calls.proofs.OffTrail.{answered}

-- ---- one contract, two lists

-- an outcome of the factory's list, as the bench's list has it
abbrev turned : Tables → Outcome → Outcome
turned b o =
    outcome o.answer (with_work b (get_or o.beside 2 [])) (get_or o.beside 1 [] ∷ get_or o.beside 0 [] ∷ o.after.work ∷ [])

sides : (f b : Tables) (query : Trace) (trail trail' : List ℕ) → outcome_on (pairing of_bench (other_in f trail) query trail') b
    ≡ turned b (outcome_on (pairing of_factory (other_in b trail') query trail) f)
unfolding outcome_on effect_of beside_of pairs pair_rest pair_beside other_in paired_with unless_refused
sides f b query trail trail' = by (first_of (pairs f of_factory (other_in b trail') query trail).conditions)
  where
    by : (o : Option Refusal)
        → unless_refused o b (trail' ∷ trail ∷ f.work ∷ []) (pairs b of_bench (other_in f trail) query trail')
        ≡ turned b (unless_refused o f (trail ∷ trail' ∷ b.work ∷ []) (pairs f of_factory (other_in b trail') query trail))
    by (some why) = refl
    by none = refl

-- what the factory's list says of an outcome is what the bench's says of it
pub as_bench : (f b : Tables) (query : Trace) (trail trail' : List ℕ) {answer : Answer} {after after' work work' : List ℕ}
    → outcome answer (with_work f work) (after ∷ after' ∷ work' ∷ []) ≡ outcome_on (pairing of_factory (other_in b trail') query trail) f
    → outcome answer (with_work b work') (after' ∷ after ∷ work ∷ []) ≡ outcome_on (pairing of_bench (other_in f trail) query trail') b
as_bench f b query trail trail' e = ap (turned b) e ∙ sym (sides f b query trail trail')

pub joins_both : JoinsBoth
unfolding Typed
joins_both p factory bench s places places' e = record {
  in_factory_lem = record {
    has_places = places;
    typed = record { of = b; trail = p.bench_trail; is = refl };
    follows = ap (λ (o : Outcome). outcome o.answer (left o.after factory) o.beside) e;
  };
  in_bench_lem = record {
    has_places = places';
    typed = record { of = f; trail = p.factory_trail; is = refl };
    follows = ap (λ (o : Outcome). outcome o.answer (left o.after bench) o.beside) there;
  };
}
  where
    f : Tables
    f = first_places p.factory_lent factory

    b : Tables
    b = first_places p.bench_lent bench

    there : outcome s.answer (with_work b s.bench_work) (s.bench_trail ∷ s.factory_trail ∷ s.factory_work ∷ [])
        ≡ outcome_on (in_bench_list p factory).ask b
    there = as_bench f b p.query p.factory_trail p.bench_trail e

-- what a call says, by its outcome in the factory's list
abbrev pub said_by : Outcome → PairSaid
said_by o = record {
  answer = o.answer;
  factory_trail = get_or o.beside 0 [];
  bench_trail = get_or o.beside 1 [];
  factory_work = o.after.work;
  bench_work = get_or o.beside 2 [];
}

module _ (p : PairCall) (factory bench : Tables) where
  abbrev pub f : Tables
  f = first_places p.factory_lent factory

  abbrev pub b : Tables
  b = first_places p.bench_lent bench

  abbrev pub effect_f : Effect
  effect_f = pairs f of_factory (other_in b p.bench_trail) p.query p.factory_trail

  abbrev effect_b : Effect
  effect_b = pairs b of_bench (other_in f p.factory_trail) p.query p.bench_trail

  -- both lists have one and the same conditions
  same_f : effect_f.conditions ≡ pair_conditions_in p factory bench
  unfolding pairs pair_rest other_in
  same_f = refl

  same_b : effect_b.conditions ≡ pair_conditions_in p factory bench
  unfolding pairs pair_rest other_in
  same_b = refl

  abbrev pub outcome_f : Outcome
  outcome_f = outcome_on (in_factory_list p bench).ask f

  -- nothing but search work is written in the tables, and three slices beside them
  whole : outcome outcome_f.answer (with_work f outcome_f.after.work)
      (get_or outcome_f.beside 0 [] ∷ get_or outcome_f.beside 1 [] ∷ get_or outcome_f.beside 2 [] ∷ [])
      ≡ outcome_f
  unfolding outcome_on effect_of beside_of pairs pair_beside other_in unless_refused
  whole = by (first_of effect_f.conditions)
    where
      is : Option Refusal → Outcome
      is o = unless_refused o f (p.factory_trail ∷ p.bench_trail ∷ b.work ∷ []) effect_f

      by : (o : Option Refusal)
          → outcome (is o).answer (with_work f (is o).after.work) (get_or (is o).beside 0 [] ∷ get_or (is o).beside 1 [] ∷ get_or (is o).beside 2 [] ∷ [])
          ≡ is o
      by (some why) = refl
      by none = refl

  -- the call on two memories that have its places
  pub call_both : lent_of f ≡ p.factory_lent → lent_of b ≡ p.bench_lent → PairFollows p factory bench (said_by outcome_f)
  call_both places places' = joins_both p factory bench (said_by outcome_f) places places' whole

  -- .. and it says nothing else
  pub said_is : (s : PairSaid) → PairFollows p factory bench s → s ≡ said_by outcome_f
  unfolding outcome_on
  said_is s follows =
      let x = reply_is follows.in_factory_lem in
      let y = reply_is follows.in_bench_lem ∙ ap (λ (o : Outcome). reply o.answer o.beside) (sides f b p.query p.factory_trail p.bench_trail) in
      λ i. record {
        answer = (x i).answer;
        factory_trail = get_or (x i).beside 0 [];
        bench_trail = get_or (x i).beside 1 [];
        factory_work = get_or (y i).beside 2 [];
        bench_work = get_or (x i).beside 2 [];
      }

-- ---- a call of which nothing is refused

-- a stored trace is a part of the samples table
part_of : (t : Tables) → Accepted t → (trace : ℕ) → trace < trace_count t → PartIs t trace
unfolding trace_in samples_needed
part_of t ok trace h =
    let n : ℕ = (measures_of t).n in
    let q : suc trace * n ≤ (measures_of t).capacity * n = mul-le-mul_right n (omega (arith, h, (tree_formed t ok.formed).room)) in
    let inside : trace * n + n ≤ length t.samples = omega (arith, q, ok.room.long.samples_long) in
    record {
      inside = inside;
      as_long = length-take-le n (drop (trace * n) t.samples) (omega (arith, inside, length-drop (trace * n) t.samples));
      is_trace_lem = sym (trace_at t trace h);
    }

-- what tables are for which 2 and 3 are not refused
tree_fits : (t : Tables) → Accepted t → T (abstract.well_formed_tree sample_limit (measures_of t) (length (traces_in t)) (tree_in t))
tree_fits t ok = subst (λ (n : ℕ). T (abstract.well_formed_tree sample_limit (measures_of t) n (tree_in t))) (sym (traces_size t)) (tree_passes t ok.formed)

-- what is not refused of two libraries together
pub record Together (p : PairCall) (n : ℕ) (f : Indexed) (n' : ℕ) (b : Indexed) : Type 0 where
  pub alike : n ≡ n'
  pub as_long : length p.query ≡ n
  pub some_trace : 0 < length f.traces + length b.traces

pub together : (p : PairCall) (n : ℕ) (f : Indexed) (n' : ℕ) (b : Indexed) → first_of (together_conditions p n f n' b) ≡ none
    → Together p n f n' b
together p n f n' b e =
    let one = none_first (not (eqb n n')) unlike_libraries _ e in
    let two = none_first (not (eqb (length p.query) n)) wrong_trace _ one.1 in
    let three = none_first (not (are_samples p.query)) sample_range _ two.1 in
    let four = none_first (eqb (length f.traces + length b.traces) 0) empty _ three.1 in
    record {
      alike = eqb-true n n' (not-false _ one.0);
      as_long = eqb-true (length p.query) n (not-false _ two.0);
      some_trace = pos_of_ne-zero (eqb-false (length f.traces + length b.traces) 0 four.0);
    }

module _ (p : PairCall) (factory bench : Tables) (fine : first_of (pair_conditions_in p factory bench) ≡ none) where
  abbrev lent_f : Tables
  lent_f = f p factory bench

  abbrev lent_b : Tables
  lent_b = b p factory bench

  pub fine_f : first_of (made_conditions lent_f) ≡ none
  fine_f = (none_both (made_conditions lent_f) _ fine).0

  pub fine_b : first_of (made_conditions lent_b) ≡ none
  fine_b = (none_both (made_conditions lent_b) _ (none_both (made_conditions lent_f) _ fine).1).0

  pub fine_both : Together p (measures_of lent_f).n (lent_library p.factory_lent factory) (measures_of lent_b).n (lent_library p.bench_lent bench)
  fine_both = together p _ _ _ _ (none_both (made_conditions lent_b) _ (none_both (made_conditions lent_f) _ fine).1).1

  abbrev steps : PairMatch
  steps = pair_by_steps (lent_library p.factory_lent factory) (lent_library p.bench_lent bench) p.query

  nearest_read : PairAnswered (lent_library p.factory_lent factory) (lent_library p.bench_lent bench) p.query steps
  nearest_read = pair_of_formed sample_limit (measures_of lent_f) (measures_of lent_b) (lent_library p.factory_lent factory)
      (lent_library p.bench_lent bench) (tree_fits lent_f (accepted lent_f fine_f)) (tree_fits lent_b (accepted lent_b fine_b))
      fine_both.some_trace p.query

  part_by : (which : Which) (trace : ℕ)
      → trace < length (by_which which (lent_library p.factory_lent factory) (lent_library p.bench_lent bench)).traces
      → PartIs (by_which which lent_f lent_b) trace
  part_by of_factory trace h = part_of lent_f (accepted lent_f fine_f) trace (omega (arith, h, traces_size lent_f))
  part_by of_bench trace h = part_of lent_b (accepted lent_b fine_b) trace (omega (arith, h, traces_size lent_b))

  part_is : PartIs (by_which steps.which lent_f lent_b) steps.trace
  part_is = part_by steps.which steps.trace nearest_read.is_stored

-- ---- on any two memories

module _ (p : PairCall) (factory bench : Tables) (s : PairSaid) (follows : PairFollows p factory bench s) where
  abbrev said_f : Reply
  said_f = reply s.answer (s.factory_trail ∷ s.bench_trail ∷ s.bench_work ∷ [])

  abbrev said_b : Reply
  said_b = reply s.answer (s.bench_trail ∷ s.factory_trail ∷ s.factory_work ∷ [])

  one_f : OneCall (in_factory_list p bench) factory said_f (factory_after p factory s)
  one_f = one_call (in_factory_list p bench) factory (factory_after p factory s) said_f follows.in_factory_lem

  one_b : OneCall (in_bench_list p factory) bench said_b (bench_after p bench s)
  one_b = one_call (in_bench_list p factory) bench (bench_after p bench s) said_b follows.in_bench_lem

  pub refuses : (why : Refusal) → first_of (pair_conditions_in p factory bench) ≡ some why → s.answer ≡ refusing why
  unfolding effect_of
  refuses why e = one_f.refuses why (ap first_of (same_f p factory bench) ∙ e)

  pub works : first_of (pair_conditions_in p factory bench) ≡ none
      → s.answer ≡ answering (paired (pair_by_steps (lent_library p.factory_lent factory) (lent_library p.bench_lent bench) p.query))
  unfolding effect_of pairs paired_with other_in
  works e = ap (λ (r : Reply). r.answer) (one_f.works (ap first_of (same_f p factory bench) ∙ e)).0

  -- where it answers, no condition holds, and the answer is the steps'
  pub known : (m : PairMatch) → s.answer ≡ answering (paired m) → (first_of (pair_conditions_in p factory bench) ≡ none)
      × (pair_by_steps (lent_library p.factory_lent factory) (lent_library p.bench_lent bench) p.query ≡ m)
  unfolding effect_of pairs paired_with other_in
  known m a =
      let e = answered (first_of (effect_f p factory bench).conditions) (f p factory bench) (beside_of (in_factory_list p bench).ask)
      (effect_f p factory bench) (paired m) (sym (ap (λ (r : Reply). r.answer) (reply_is follows.in_factory_lem)) ∙ a) in
      let q = e.1 in
      (sym (ap first_of (same_f p factory bench)) ∙ e.0, cc)

  -- .. with its trails and search work
  pub steps_said : first_of (pair_conditions_in p factory bench) ≡ none
      → PairMatched p factory bench s (pair_by_steps (lent_library p.factory_lent factory) (lent_library p.bench_lent bench) p.query)
  unfolding effect_of pairs pair_beside paired_with other_in
  steps_said e =
      let query : Trace = p.query in
      let lf = lent_library p.factory_lent factory in
      let lb = lent_library p.bench_lent bench in
      let x = one_f.works (ap first_of (same_f p factory bench) ∙ e) in
      let y = one_b.works (ap first_of (same_b p factory bench) ∙ e) in
      let c = pair_steps lf lb query in
      record {
        by_steps = refl;
        steps_are = c;
        nearest_read = nearest_read p factory bench e;
        part_is = part_is p factory bench e;
        factory_by_bound = beginning_by_bound lf.tree query c.factory_in_order;
        bench_by_bound = beginning_by_bound lb.tree query c.bench_in_order;
        factory_trail_lem = ap (λ (r : Reply). get_or r.beside 0 []) x.0;
        bench_trail_lem = ap (λ (r : Reply). get_or r.beside 0 []) y.0;
        factory_after_lem = x.1;
        bench_after_lem = y.1;
      }

  pub paired_in : PairedIn p factory bench s
  unfolding beside_of other_in
  paired_in = record {
    refuses = refuses;
    works = works;
    as_before = λ why a.
        let x = one_f.as_before why a in
        let y = one_b.as_before why a in
        record {
          factory_stays = x.0;
          bench_stays = y.0;
          factory_trail_lem = ap (λ (l : List (List ℕ)). get_or l 0 []) x.1;
          bench_trail_lem = ap (λ (l : List (List ℕ)). get_or l 0 []) y.1;
        };
    answered = λ m a. subst (PairMatched p factory bench s) (known m a).1 (steps_said (known m a).0);
  }

pub pairs_anywhere : PairsAnywhere
pairs_anywhere = paired_in
