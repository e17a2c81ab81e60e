-- An exported call by its contract follows its definition: its contract is the definition's equation, the answer told as numbers.
use Prim.Native.Nat.{ℕ}
use mathlib.Core.Path.{◌≡◌, sym, ap, ◌∙◌}
use mathlib.Core.List.{List, [], ◌∷◌}
use Rattle.dstree.specs.Measures.{Trace}
use Rattle.dstree.specs.Pair.{of_factory, of_bench}
use Rattle.dstree.specs.Book.{Call, Answer, pairing, reply}
use Rattle.tables.specs.Tables.{Tables}
use Rattle.calls.specs.Outcome.{Outcome, outcome}
use Rattle.calls.specs.Effects.{other_in, outcome_on}
use Rattle.calls.specs.Pairs.{with_work}
use Rattle.calls.proofs.Pairs.{as_bench}
use Rattle.demands.specs.Did.{searched_tables, own, tables_of}
use Rattle.demands.proofs.Follows.{placed_follows}
use Rattle.telling.specs.COutcome.{COutcome, c_outcome, c_outcome_of}
use Rattle.exported_calls.specs.Did.{CReply, c_reply, CExchange, CallMade, CDid, by_open, by_add, by_nearest, by_write, by_read, by_list}
use Rattle.exported_calls.specs.Did.{by_import, by_export, by_check, by_batch, by_add_labelled, by_label, by_remote, by_bands, by_pair_factory}
use Rattle.exported_calls.specs.Did.{by_pair_bench, by_limited, by_clipped}
use Rattle.exported_calls.specs.Theorem.{Told}

by_claim : {x : CExchange} {c : Call} {memory memory' : Tables} {out : List ℕ} {got : CReply} → CallMade x c memory out got memory'
    → c_outcome x.told.code x.told.out x.after x.beside ≡ c_outcome_of (outcome_on x.ask x.before) x.out
    → Told c memory out got memory'
by_claim {x} {c} {memory} {memory'} {out} d claim =
    let answer : Answer = (outcome_on x.ask x.before).answer in
    let is : outcome answer x.after x.beside ≡ outcome_on x.ask x.before =
    ap (λ (o : COutcome). outcome answer o.after o.beside) claim in
    record {
      said = reply answer x.beside;
      follows = placed_follows d.placed is;
      told = d.says
          ∙ (ap (λ (o : COutcome). record { told = o.answer; beside = x.beside }) claim
          ∙ ap (c_reply (reply answer x.beside)) (sym d.lends_out));
    }

-- what the factory's list says of what is told, the bench's says too
told_as_bench : (f b : Tables) (query : Trace) (trail trail' out : List ℕ) {code : ℕ} {out' after after' work work' : List ℕ}
    → c_outcome code out' (with_work f work) (after ∷ after' ∷ work' ∷ [])
    ≡ c_outcome_of (outcome_on (pairing of_factory (other_in b trail') query trail) f) out
    → c_outcome code out' (with_work b work') (after' ∷ after ∷ work ∷ [])
    ≡ c_outcome_of (outcome_on (pairing of_bench (other_in f trail) query trail') b) out
told_as_bench f b query trail trail' out {after = after} {after' = after'} {work = work} {work' = work'} claim =
    let answer : Answer = (outcome_on (pairing of_factory (other_in b trail') query trail) f).answer in
    let is : outcome answer (with_work f work) (after ∷ after' ∷ work' ∷ []) ≡ outcome_on (pairing of_factory (other_in b trail') query trail) f =
    ap (λ (o : COutcome). outcome answer o.after o.beside) claim in
    ap (λ (o : COutcome). record { answer = o.answer; after = with_work b work'; beside = after' ∷ after ∷ work ∷ [] }) claim
    ∙ ap (λ (o : Outcome). c_outcome_of o out) (as_bench f b query trail trail' is)

pub follows : (c : Call) (memory memory' : Tables) (out : List ℕ) (got : CReply) → CDid c memory out got memory'
    → Told c memory out got memory'
follows c memory memory' out got (by_open d) = by_claim d.made d.claim
follows c memory memory' out got (by_add d) = by_claim d.made d.claim
follows c memory memory' out got (by_nearest d) = by_claim d.made d.claim
follows c memory memory' out got (by_write d) = by_claim d.made d.claim
follows c memory memory' out got (by_read d) = by_claim d.made d.claim
follows c memory memory' out got (by_list d) = by_claim d.made d.claim
follows c memory memory' out got (by_import d) = by_claim d.made d.claim
follows c memory memory' out got (by_export d) = by_claim d.made d.claim
follows c memory memory' out got (by_check d) = by_claim d.made d.claim
follows c memory memory' out got (by_batch d) = by_claim d.made d.claim
follows c memory memory' out got (by_add_labelled d) = by_claim d.made d.claim
follows c memory memory' out got (by_label d) = by_claim d.made d.claim
follows c memory memory' out got (by_remote d) = by_claim d.made d.claim
follows c memory memory' out got (by_bands d) = by_claim d.made d.claim
follows c memory memory' out got (by_pair_factory d) = by_claim d.made d.claim.0
follows c memory memory' out got (by_pair_bench d) =
    let args = searched_tables d.args in
    let bench = searched_tables (own args).1 in
    by_claim d.made (told_as_bench (tables_of args) (tables_of bench) (own bench).1.0.now (own args).0.now (own bench).0.now
    (own bench).1.1.0.now d.claim.0)
follows c memory memory' out got (by_limited d) = by_claim d.made d.claim
follows c memory memory' out got (by_clipped d) = by_claim d.made d.claim
