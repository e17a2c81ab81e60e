-- A call by its contract follows its definition: the contract's claim is the definition's equation on the tables that were lent.
use Prim.Native.Nat.{ℕ}
use mathlib.Core.Path.{◌≡◌, sym, ap, subst, ◌∙◌}
use mathlib.Core.List.{List}
use Rattle.dstree.specs.Book.{Ask, Call, Answer, Reply, reply}
use Rattle.tables.specs.Tables.{Tables, lent_of}
use Rattle.tables.specs.Beginning.{left}
use Rattle.calls.specs.Outcome.{Outcome, outcome}
use Rattle.calls.specs.Effects.{outcome_on}
use Rattle.calls.specs.Follows.{Follows}
use Rattle.calls.proofs.Pairs.{as_bench}
use Rattle.batch_answers.proofs.Whole.{whole}
use Rattle.demands.specs.Did.{Placed, CallMade, Did, by_open, by_add, by_nearest, by_write, by_read, by_list, by_import}
use Rattle.demands.specs.Did.{by_export, by_check, by_batch, by_add_labelled, by_label, by_remote, by_bands, by_pair_factory}
use Rattle.demands.specs.Did.{by_pair_bench, by_limited, by_clipped, searched_tables, tables_of, own}

pub placed_follows : {ask : Ask} {before after memory memory' : Tables} {c : Call} {answer : Answer} {beside : List (List ℕ)}
    → Placed ask before after c memory memory' → outcome answer after beside ≡ outcome_on ask before
    → Follows c memory (reply answer beside) memory'
placed_follows {memory = memory} {c = c} d claim = record {
  has_places = subst (λ (t : Tables). lent_of t ≡ c.lent) d.first_places_lem d.so_many;
  typed = rw d.asks d.typed;
  follows = rw (d.leaves, d.asks, ← d.first_places_lem)
      (ap (λ (o : Outcome). outcome o.answer (left o.after memory) o.beside) claim);
}

by_claim : {ask : Ask} {before after memory memory' : Tables} {answer : Answer} {beside : List (List ℕ)} {c : Call} {said : Reply}
    → CallMade ask before answer after beside c memory said memory' → outcome answer after beside ≡ outcome_on ask before
    → Follows c memory said memory'
by_claim {memory = memory} {memory' = memory'} {c = c} d claim =
    subst (λ (s : Reply). Follows c memory s memory') (sym d.says) (placed_follows d.placed claim)

pub follows : (c : Call) (memory memory' : Tables) (said : Reply) → Did c memory said memory' → Follows c memory said memory'
follows c memory memory' said (by_open d) = by_claim d.made d.claim
follows c memory memory' said (by_add d) = by_claim d.made d.claim
follows c memory memory' said (by_nearest d) = by_claim d.made d.claim
follows c memory memory' said (by_write d) = by_claim d.made d.claim
follows c memory memory' said (by_read d) = by_claim d.made d.claim
follows c memory memory' said (by_list d) = by_claim d.made d.claim
follows c memory memory' said (by_import d) = by_claim d.made d.claim
follows c memory memory' said (by_export d) = by_claim d.made d.claim
follows c memory memory' said (by_check d) = by_claim d.made d.claim
follows c memory memory' said (by_add_labelled d) = by_claim d.made d.claim
follows c memory memory' said (by_label d) = by_claim d.made d.claim
follows c memory memory' said (by_remote d) = by_claim d.made d.claim
follows c memory memory' said (by_bands d) = by_claim d.made d.claim
follows c memory memory' said (by_pair_factory d) = by_claim d.made d.claim
follows c memory memory' said (by_pair_bench d) =
    let args = searched_tables d.args in
    let bench = searched_tables (own args).1 in
    by_claim d.made (as_bench (tables_of args) (tables_of bench) (own bench).1.0.now (own args).0.now (own bench).0.now
    d.claim)
follows c memory memory' said (by_limited d) = by_claim d.made d.claim
follows c memory memory' said (by_clipped d) = by_claim d.made d.claim
follows c memory memory' said (by_batch d) =
    by_claim d.searched.made
    (whole _ _ _ _ _ _ d.list d.list' d.searched.result d.done (λ l size. d.searched.claim l (size ∙ d.so_long)) d.stored)
