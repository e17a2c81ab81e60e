-- The two ways that the remote's call ends, as the match of the same query ends: with its refusal, or with its answer and the code that lies
-- in the place of the trace found.
use Prim.Native.Nat.{ℕ, ◌<◌}
use mathlib.Core.Path.{◌≡◌, sym, ap, ap₂, ◌∙◌}
use mathlib.Core.Option.{Option, none, some}
use mathlib.Core.List.{List, [], ◌∷◌}
use native.Mathlib.Omega.{arith}
use lib.ListN.{get_or, take}
use Rattle.dstree.specs.Measures.{Trace}
use Rattle.dstree.specs.Labels.{label_at}
use Rattle.dstree.specs.Matching.{Match, searched}
use Rattle.dstree.specs.Refusals as word
use Rattle.dstree.specs.Refusals.{first_of}
use Rattle.dstree.specs.Remote.{codes_of}
use Rattle.dstree.specs.Book.{Answer, matching, remote_matching, beside_of, matched, remote_matched, refusing, answering, match_seen, over}
use Rattle.tables.specs.Tables.{Tables, trace_count}
use Rattle.tables.specs.View.{tree_in, traces_in, labels_in}
use Rattle.tables.specs.Answers.{word_of}
use Rattle.tables.specs.declared.Refusal.{Refusal}
use Rattle.calls.specs.Outcome.{Outcome, outcome, unless_refused}
use Rattle.calls.specs.Effects.{cleared, matches, remotes, effect_of, outcome_on}
use Rattle.calls.proofs.Ends.{ends_done}
use Rattle.calls.proofs.Finds.{found_stored}
use Rattle.calls.proofs.OffTrail.{answered}
use Rattle.calls.proofs.Remote.{code_at_lem}
use Rattle.matching.specs.Answered as match
use Rattle.matching.specs.declared.Found.{Found}
use Rattle.std.specs.Prelude.{Result, Ok, Err}
use Rattle.remote.specs.Answered.{answer_by}

-- before the call, and what the match left
module _ (t t' : Tables) (query : Trace) (trail trail' : List ℕ) where
  -- what a match answers, as the remote's call is to answer it
  abbrev Ends : Answer → Type 0
  Ends answer = outcome answer t' (trail' ∷ []) ≡ outcome_on (remote_matching query trail) t

  module _ (found : Result Found Refusal) (matches_so : outcome (match.answer_by found trail') t' (trail' ∷ []) ≡ outcome_on (matching query trail) t) where
    same_refusal : (o : Option word.Refusal) (why : word.Refusal)
        → outcome (refusing why) t' (trail' ∷ []) ≡ unless_refused o t (trail ∷ []) (matches t query trail)
        → outcome (refusing why) t' (trail' ∷ []) ≡ unless_refused o t (trail ∷ []) (remotes t query trail)
    unfolding unless_refused
    same_refusal (some other) why e = e
    same_refusal none why e =
        let said : refusing why ≡ answering (matches t query trail).result = ap (λ (o : Outcome). o.answer) e in
        let z : ◌≡◌ {A = ℕ} 0 1 = cc in
        absurd (omega arith)

    pub refused_answer : (why : Refusal) → found ≡ Err why → Ends (answer_by (Err why) trail')
    unfolding match.answer_by answer_by outcome_on effect_of beside_of
    refused_answer why is =
        same_refusal (first_of (matches t query trail).conditions) (word_of why)
        (ap (λ (x : Result Found Refusal). outcome (match.answer_by x trail') t' (trail' ∷ [])) (sym is) ∙ matches_so)

    module _ (trace distance leaves traces : ℕ) (is : found ≡ Ok record { trace = trace; distance = distance; leaves = leaves; traces = traces }) where
      abbrev m : Match
      m = record { trace = trace; distance = distance; leaves = leaves; traces = traces; trail = take leaves trail' }

      abbrev seen : Match
      seen = let s = searched (traces_in t) (tree_in t) query in match_seen s s.best

      so : outcome (answering (matched m)) t' (trail' ∷ []) ≡ outcome_on (matching query trail) t
      unfolding match.answer_by
      so = ap (λ (x : Result Found Refusal). outcome (match.answer_by x trail') t' (trail' ∷ [])) (sym is) ∙ matches_so

      known : (first_of (matches t query trail).conditions ≡ none) × (matched seen ≡ matched m)
      unfolding outcome_on effect_of beside_of
      known = answered (first_of (matches t query trail).conditions) t (trail ∷ []) (matches t query trail) (matched m)
          (sym (ap (λ (o : Outcome). o.answer) so))

      match_is : seen ≡ m
      match_is = cc known.1

      inside : trace < trace_count t
      inside = rw (← ap (λ (k : Match). k.trace) match_is) (found_stored t query trail known.0)

      done_is : outcome (answering (matched m)) t' (trail' ∷ [])
          ≡ outcome (answering (matched seen)) (cleared t) (over seen.trail trail ∷ [])
      unfolding outcome_on effect_of beside_of unless_refused
      done_is = so ∙ ap (λ (o : Option word.Refusal). unless_refused o t (trail ∷ []) (matches t query trail)) known.0

      pub found_answer : (code : ℕ) → code ≡ (label_at (get_or t.labels trace 0)).code
          → Ends (answer_by (Ok record { trace = trace; distance = distance; leaves = leaves; traces = traces; code = code }) trail')
      unfolding answer_by outcome_on effect_of beside_of label_at
      found_answer code code_is =
          ends_done t (trail ∷ []) (remotes t query trail) (remote_matched m code) t' (trail' ∷ []) known.0
          (ap₂ remote_matched (sym match_is)
          (code_is ∙ (sym (code_at_lem t trace inside) ∙ ap (λ (k : Match). get_or (codes_of (labels_in t)) k.trace 0) (sym match_is))))
          (ap (λ (o : Outcome). o.after) done_is) (ap (λ (o : Outcome). o.beside) done_is)
