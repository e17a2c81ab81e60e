-- Every call of the list is one of an exported function too, whatever its `out`: slices that hold the same, and the answer as numbers.
use Prim.Native.Nat.{ℕ, ◌-◌}
use mathlib.Core.Path.{◌≡◌, refl, ap, subst, ◌∙◌}
use mathlib.Core.List.{List}
use lib.ListN.{length}
use denote.Triple.Clauses.{AtExit}
use borrow.Fn.Kinds.{ParamKind, ResultKind, Dens, ended_of, Out, res_t}
use contract.Lifetimes.{Lfts}
use Rattle.dstree.specs.Book.{Ask, Call, Answer, Reply}
use Rattle.tables.specs.Tables.{Tables}
use Rattle.calls.specs.Outcome.{Outcome}
use Rattle.calls.specs.Numbers.{code_of, values_of, laid}
use Rattle.opening.specs.Opened as opening_answer
use Rattle.adding.specs.Answered as adding_answer
use Rattle.matching.specs.Answered as matching_answer
use Rattle.listing.specs.Answered as listing_answer
use Rattle.sheet_writing.specs.Answered as writing_answer
use Rattle.sheet_reading.specs.Answered as reading_answer
use Rattle.importing.specs.Answered as importing_answer
use Rattle.exporting.specs.Answered as exporting_answer
use Rattle.checking.specs.Answered as checking_answer
use Rattle.batching.specs.Answered as batching_answer
use Rattle.labelling.specs.Answered as labelling_answer
use Rattle.remote.specs.Answered as remote_answer
use Rattle.banding.specs.Answered as banding_answer
use Rattle.limiting.specs.Answered as limiting_answer
use Rattle.clipping.specs.Answered as clipping_answer
use Rattle.pairing.specs.Answered as pairing_answer
use Rattle.pairing.specs.Parts.{LentPart, lent_part, no_words, part_by, HandedBack}
use Rattle.std.specs.Prelude.{Result}
use Rattle.tables.specs.declared.Refusal.{Refusal}
use Rattle.pairing.specs.declared.Paired.{Paired}
use Rattle.pairing.proofs.Told.{handed_back}
use Rattle.batch_answers.specs.AnswerRecords.{nears_of}
use Rattle.batch_answers.proofs.Whole.{whole}
use lib.IntN.{ℤ}
use denote.Ref.{Bor, MutBor}
use Rattle.demands.specs.Did as did
use Rattle.demands.specs.Did.{ToSearch, searched_tables, tables_of, after_search, Did}
use Rattle.demands.proofs.Replies.{place, lifetimes}
use Rattle.telling.specs.COutcome.{returned_of, c_outcome_of}
use Rattle.exported_calls.specs.Did.{c_reply, CExchange, c_exchange, CallMade, Made, CDid, by_open, by_add, by_nearest, by_write, by_read, by_list}
use Rattle.exported_calls.specs.Did.{by_import, by_export, by_check, by_batch, by_add_labelled, by_label, by_remote, by_bands, by_pair_factory, by_pair_bench, by_limited, by_clipped}

-- the same tables, and this behind them
abbrev with_own : {A B C D E F Before Own : Type 0} → A × (B × (C × (D × (E × (F × Before))))) → Own → A × (B × (C × (D × (E × (F × Own)))))
with_own s own = (s.0, (s.1.0, (s.1.1.0, (s.1.1.1.0, (s.1.1.1.1.0, (s.1.1.1.1.1.0, own))))))

-- what is behind the tables
abbrev own : {A B C D E F Own : Type 0} → A × (B × (C × (D × (E × (F × Own))))) → Own
own s = s.1.1.1.1.1.1

-- the slices of a match over two libraries, and a place that leads to a part of lent words
abbrev Both : Type 0 → Type 0
Both Own = ToSearch (MutBor (List ℕ) × ToSearch (MutBor (List ℕ) × (Bor (List ℤ) × Own)))

abbrev leading : LentPart → MutBor (Bor (List ℤ))
leading part = record { ref_ptr = (0, 0); ghost_name = 0; now = record { ref_ptr = (part.block, part.byte); now = part.contents } }

abbrev pair_answer : Both Unit → Result Paired Refusal → Answer
pair_answer exits r = pairing_answer.answer_by r (own exits).0.now (own (own exits).1).0.now

-- what goes with this answer, of these tables
abbrev pair_part : Both Unit → Result Paired Refusal → LentPart
pair_part args r =
    let bench = (own args).1 in
    part_by r (lent_part args.1.0) (lent_part bench.1.0) (length (own bench).1.0.now)

-- the same slices, with `out` and a place for the part
abbrev with_part : Both Unit → List ℕ → LentPart → Both (MutBor (List ℕ) × (MutBor (Bor (List ℤ)) × Unit))
with_part s out part =
    let bench = (own s).1 in
    with_own s ((own s).0, with_own bench ((own bench).0, ((own bench).1.0, (place out, (leading part, tt)))))

-- the part that goes with an answer is the one that the contract names
part_goes : (args exits : Both Unit) (r : Result Paired Refusal) (answer : Answer) → pair_answer exits r ≡ answer
    → let bench = (own args).1 in
    HandedBack answer (lent_part args.1.0) (lent_part bench.1.0) (length (own bench).1.0.now) (pair_part args r)
part_goes args exits r answer e =
    let bench = (own args).1 in
    subst (λ (a : Answer). HandedBack a (lent_part args.1.0) (lent_part bench.1.0) (length (own bench).1.0.now) (pair_part args r)) e
    (handed_back (own exits).0.now (own (own exits).1).0.now _ _ _ r)

module _ (c : Call) (memory memory' : Tables) (said : Reply) (out : List ℕ) where
  abbrev Linked : Type 0
  Linked = CDid c memory out (c_reply said out) memory'

  -- what `out` holds then
  abbrev told : Answer → List ℕ
  told answer = laid (values_of answer) out

  made : {ask : Ask} {before after : Tables} {answer : Answer} {beside : List (List ℕ)}
      → did.CallMade ask before answer after beside c memory said memory'
      → CallMade (c_exchange ask before out (returned_of answer out) after beside) c memory out (c_reply said out) memory'
  made d = record { placed = d.placed; lends_out = refl; says = ap (λ (s : Reply). c_reply s out) d.says }

  by : {n : ℕ} {ps : List (ParamKind n)} {r : ResultKind n} {Learnt : Out n ps r}
      {seen : (κs : Lfts n) → Dens κs ps → (res_t r κs).Denot → AtExit (ended_of n ps r) κs → CExchange}
      → (Made ps r Learnt seen c memory out (c_reply said out) memory' → Linked)
      → (κs : Lfts n) (args : Dens κs ps) (exits : AtExit (ended_of n ps r) κs) (result : (res_t r κs).Denot) → Learnt κs args result exits
      → CallMade (seen κs args result exits) c memory out (c_reply said out) memory' → Linked
  by linked κs args exits result claim made =
      linked (record { κs = κs; args = args; exits = exits; result = result; claim = claim; made = made })

  abbrev as_numbers : {o p : Outcome} → o ≡ p → c_outcome_of o out ≡ c_outcome_of p out
  as_numbers e = ap (λ (o : Outcome). c_outcome_of o out) e

  pub linked : Did c memory said memory' → Linked
  unfolding returned_of
  linked (did.by_open d) =
      let a = opening_answer.answer_by d.result in
      let m = own d.args in
      by by_open (lifetimes 7) (with_own d.args (m.0, (m.1.0, (m.1.1.0, (place out, tt)))))
      (with_own d.exits (m.0, (m.1.0, (m.1.1.0, (place (told a), tt))))) (code_of a) (as_numbers d.claim) (made d.made)
  linked (did.by_add d) =
      let a = adding_answer.answer_by d.result in
      by by_add (lifetimes 8) (with_own d.args ((own d.args).0, (place out, tt)))
      (with_own d.exits ((own d.exits).0, (place (told a), tt))) (code_of a) (as_numbers d.claim) (made d.made)
  linked (did.by_nearest d) =
      let a = matching_answer.answer_by d.result (own d.exits).0.now in
      by by_nearest (lifetimes 9) (with_own d.args ((own d.args).0, ((own d.args).1.0, (place out, tt))))
      (with_own d.exits ((own d.exits).0, ((own d.exits).1.0, (place (told a), tt)))) (code_of a) (as_numbers d.claim)
      (made d.made)
  linked (did.by_write d) =
      let a = writing_answer.answer_by d.result (own d.exits).0.now in
      by by_write (lifetimes 8) (with_own d.args ((own d.args).0, (place out, tt)))
      (with_own d.exits ((own d.exits).0, (place (told a), tt))) (code_of a) (as_numbers d.claim) (made d.made)
  linked (did.by_read d) =
      let a = reading_answer.answer_by d.result in
      by by_read (lifetimes 8) (with_own d.args ((own d.args).0, (place out, tt)))
      (with_own d.exits ((own d.exits).0, (place (told a), tt))) (code_of a) (as_numbers d.claim) (made d.made)
  linked (did.by_list d) =
      let a = listing_answer.answer_by d.result (own d.exits).0.now (own d.exits).1.0.now in
      let b = own d.args in
      let e = own d.exits in
      by by_list (lifetimes 10) (with_own d.args (b.0, (b.1.0, (b.1.1.0, (b.1.1.1.0, (place out, tt))))))
      (with_own d.exits (e.0, (e.1.0, (e.1.1.0, (e.1.1.1.0, (place (told a), tt)))))) (code_of a) (as_numbers d.claim)
      (made d.made)
  linked (did.by_import d) =
      let a = importing_answer.answer_by d.result in
      by by_import (lifetimes 8) (with_own d.args ((own d.args).0, (place out, tt)))
      (with_own d.exits ((own d.exits).0, (place (told a), tt))) (code_of a) (as_numbers d.claim) (made d.made)
  linked (did.by_export d) =
      let a = exporting_answer.answer_by d.result (own d.exits).0.now in
      let b = own d.args in
      by by_export (lifetimes 8) (with_own d.args (b.0, (b.1.0, (b.1.1.0, (place out, tt)))))
      (with_own d.exits ((own d.exits).0, (b.1.0, (b.1.1.0, (place (told a), tt))))) (code_of a) (as_numbers d.claim)
      (made d.made)
  linked (did.by_check d) =
      let a = checking_answer.answer_by d.result in
      by by_check (lifetimes 7) (with_own d.args (place out, tt)) (with_own d.exits (place (told a), tt)) (code_of a)
      (as_numbers d.claim) (made d.made)
  linked (did.by_add_labelled d) =
      let a = adding_answer.answer_by d.result in
      let b = own d.args in
      let e = own d.exits in
      by by_add_labelled (lifetimes 8) (with_own d.args (b.0, (b.1.0, (b.1.1.0, (place out, tt)))))
      (with_own d.exits (e.0, (b.1.0, (b.1.1.0, (place (told a), tt))))) (code_of a) (as_numbers d.claim) (made d.made)
  linked (did.by_label d) =
      let a = labelling_answer.answer_by d.result in
      by by_label (lifetimes 7) (with_own d.args ((own d.args).0, (place out, tt)))
      (with_own d.exits ((own d.args).0, (place (told a), tt))) (code_of a) (as_numbers d.claim) (made d.made)
  linked (did.by_remote d) =
      let a = remote_answer.answer_by d.result (own d.exits).0.now in
      by by_remote (lifetimes 9) (with_own d.args ((own d.args).0, ((own d.args).1.0, (place out, tt))))
      (with_own d.exits ((own d.exits).0, ((own d.exits).1.0, (place (told a), tt)))) (code_of a) (as_numbers d.claim)
      (made d.made)
  linked (did.by_bands d) =
      let b = own d.args in
      let e = own d.exits in
      let a = banding_answer.answer_by d.result (length b.1.1.0.now - 1) e.0.now in
      by by_bands (lifetimes 10) (with_own d.args (b.0, (b.1.0, (b.1.1.0, (place out, tt)))))
      (with_own d.exits (e.0, (e.1.0, (e.1.1.0, (place (told a), tt))))) (code_of a) (as_numbers d.claim) (made d.made)
  linked (did.by_pair_factory d) =
      let a = pair_answer d.exits d.result in
      by by_pair_factory (lifetimes 16) (with_part d.args out (no_words (lent_part d.args.1.0)))
      (with_part d.exits (told a) (pair_part d.args d.result)) (code_of a)
      (as_numbers d.claim, part_goes d.args d.exits d.result _ (ap (λ (o : Outcome). o.answer) d.claim)) (made d.made)
  linked (did.by_pair_bench d) =
      let a = pair_answer d.exits d.result in
      by by_pair_bench (lifetimes 16) (with_part d.args out (no_words (lent_part d.args.1.0)))
      (with_part d.exits (told a) (pair_part d.args d.result)) (code_of a)
      (as_numbers d.claim, part_goes d.args d.exits d.result _ (ap (λ (o : Outcome). o.answer) d.claim)) (made d.made)
  linked (did.by_limited d) =
      let b = own d.args in
      let e = own d.exits in
      let a = limiting_answer.answer_by d.result e.0.now in
      by by_limited (lifetimes 9) (with_own d.args (b.0, (b.1.0, (b.1.1.0, (place out, tt)))))
      (with_own d.exits (e.0, (e.1.0, (b.1.1.0, (place (told a), tt))))) (code_of a) (as_numbers d.claim) (made d.made)
  linked (did.by_clipped d) =
      let b = own d.args in
      let e = own d.exits in
      let a = clipping_answer.answer_by d.result e.0.now in
      by by_clipped (lifetimes 10) (with_own d.args (b.0, (b.1.0, (b.1.1.0, (place out, tt)))))
      (with_own d.exits (e.0, (e.1.0, (e.1.1.0, (place (told a), tt))))) (code_of a) (as_numbers d.claim) (made d.made)
  linked (did.by_batch d) =
      let x = d.searched in
      let b = own x.args in
      let e = own x.exits in
      let a = batching_answer.answer_by x.result.outcome (nears_of d.list') e.0.now in
      by_batch (record {
        κs = lifetimes 10;
        args = with_own x.args (b.0, (b.1.0, (b.1.1.0, (place d.list, (place out, tt)))));
        exits = with_own x.exits (e.0, (e.1.0, (e.1.1.0, (place d.list', (place (told a), tt)))));
        result = code_of a;
        claim = as_numbers (whole (tables_of (searched_tables x.args)) (after_search (searched_tables x.args) (searched_tables x.exits)) b.1.1.0 b.1.0.now b.0.now
            e.0.now d.list d.list' x.result d.done (λ l size. x.claim l (size ∙ d.so_long)) d.stored);
        made = made x.made;
      })
