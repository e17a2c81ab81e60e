-- What a match over two libraries hands back is the stored trace that won, where it lies.
use Prim.Native.Nat.{ℕ, suc, ◌*◌, ◌≤◌}
use mathlib.Core.Path.{◌≡◌, refl, sym, ap, subst, ◌∙◌}
use mathlib.Core.Bool.{true}
use mathlib.Core.List.{List, []}
use native.Mathlib.Omega.{arith}
use lib.Seq.{take-length}
use lib.ListN.{length, get_or}
use lib.Dec.{leb}
use borrow.Author.Tests.{le-leb}
use Rattle.segment.specs.Stored.{samples_of}
use Rattle.dstree.specs.Measures.{Trace}
use Rattle.dstree.specs.Pair.{Which, of_factory, of_bench, by_which, PairMatch}
use Rattle.dstree.specs.Book.{pairing, paired, Answer, answering}
use Rattle.tables.specs.Tables.{Tables, lent_of, measures_of}
use Rattle.tables.specs.View.{traces_in}
use Rattle.tables.specs.Beginning.{first_places, Begins}
use Rattle.tables.proofs.Beginning.{tables_same}
use Rattle.calls.specs.Effects.{other_in, outcome_on}
use Rattle.calls.specs.Pairs.{PairCall, PairSaid, PairFollows, PartIs}
use Rattle.calls.proofs.Pairs.{said_by, outcome_f, call_both, known, fine_both, paired_in}
use Rattle.pairing.specs.Parts.{LentPart, stored_part, trace_part, HandedBack}
use Rattle.exported_calls.specs.Theorem.{PartHanded}

whole : (t : Tables) → Begins t t
whole t = tables_same (take-length t.control) (take-length t.samples) (take-length t.nodes) (take-length t.links) (take-length t.work)
    (take-length t.labels)

-- a stored trace of a library whose n is the query's length
abbrev Stored : Trace → Tables → Tables → PairMatch → Type 0
Stored query f b m = PartIs (by_which m.which f b) m.trace × (length query ≡ (measures_of (by_which m.which f b)).n)

as_either : (which : Which) (f b : Tables) (query : Trace) → length query ≡ (measures_of f).n → (measures_of f).n ≡ (measures_of b).n
    → length query ≡ (measures_of (by_which which f b)).n
as_either of_factory f b query e same = e
as_either of_bench f b query e same = e ∙ same

module _ (f b : Tables) (query : Trace) (trail trail' : List ℕ) where
  abbrev p : PairCall
  p = record { factory_lent = lent_of f; bench_lent = lent_of b; query = query; factory_trail = trail; bench_trail = trail' }

  abbrev f' : Tables
  f' = first_places (lent_of f) f

  abbrev b' : Tables
  b' = first_places (lent_of b) b

  abbrev said : PairSaid
  said = said_by (outcome_f p f b)

  abbrev answer : Tables → Tables → Answer
  answer x y = (outcome_on (pairing of_factory (other_in y trail') query trail) x).answer

  follows : PairFollows p f b said
  follows = call_both p f b (ap lent_of (whole f)) (ap lent_of (whole b))

  stored_there : (m : PairMatch) → answer f' b' ≡ answering (paired m) → Stored query f' b' m
  stored_there m a =
      let fine = fine_both p f b (known p f b said follows m a).0 in
      (((paired_in p f b said follows).answered m a).part_is, as_either m.which f' b' query fine.as_long fine.alike)

  pub stored : (m : PairMatch) → answer f b ≡ answering (paired m) → Stored query f b m
  stored m a =
      let there : answer f' b' ≡ answering (paired m) =
      ap (λ (x : Tables). answer x b') (whole f) ∙ (ap (λ (y : Tables). answer f y) (whole b) ∙ a) in
      subst (λ (x : Tables). Stored query x b m) (whole f) (subst (λ (y : Tables). Stored query f' y m) (whole b) (stored_there m there))

-- a trace that a table of n words each holds
held : (t : Tables) (table : LentPart) (n trace : ℕ) → table.contents ≡ t.samples → PartIs t trace → n ≡ (measures_of t).n
    → (stored_part table n trace ≡ trace_part table (measures_of t).n trace)
    × (samples_of (trace_part table (measures_of t).n trace).contents ≡ get_or (traces_in t) trace [])
unfolding stored_part trace_part
held t table n trace same is e =
    let inside : suc trace * (measures_of t).n ≤ length table.contents = rw same (omega (arith, is.inside)) in
    let fits : leb (suc trace * n) (length table.contents) ≡ true =
    le-leb (suc trace * n) (length table.contents) (subst (λ (k : ℕ). suc trace * k ≤ length table.contents) (sym e) inside) in
    (rw (fits, e) refl, rw same is.is_trace_lem)

held_by : (which : Which) (f b : Tables) (factory bench : LentPart) (n trace : ℕ) → factory.contents ≡ f.samples → bench.contents ≡ b.samples
    → PartIs (by_which which f b) trace → n ≡ (measures_of (by_which which f b)).n
    → (stored_part (by_which which factory bench) n trace ≡ trace_part (by_which which factory bench) (measures_of (by_which which f b)).n trace)
    × (samples_of (trace_part (by_which which factory bench) (measures_of (by_which which f b)).n trace).contents
    ≡ get_or (traces_in (by_which which f b)) trace [])
held_by of_factory f b factory bench n trace same same' is e = held f factory n trace same is e
held_by of_bench f b factory bench n trace same same' is e = held b bench n trace same' is e

pub part_handed : (f b : Tables) (query : Trace) (trail trail' : List ℕ) (factory bench part : LentPart) → factory.contents ≡ f.samples
    → bench.contents ≡ b.samples
    → HandedBack (outcome_on (pairing of_factory (other_in b trail') query trail) f).answer factory bench (length query) part
    → PartHanded f b (outcome_on (pairing of_factory (other_in b trail') query trail) f).answer factory bench part
part_handed f b query trail trail' factory bench part same same' h = record {
  lies_there = λ m a. h.winner m a ∙ (at m a).0;
  is_trace_lem = λ m a. ap (λ (x : LentPart). samples_of x.contents) (h.winner m a ∙ (at m a).0) ∙ (at m a).1;
  is_empty_lem = h.refusal;
}
  where
    at : (m : PairMatch) → (outcome_on (pairing of_factory (other_in b trail') query trail) f).answer ≡ answering (paired m)
        → (stored_part (by_which m.which factory bench) (length query) m.trace
        ≡ trace_part (by_which m.which factory bench) (measures_of (by_which m.which f b)).n m.trace)
        × (samples_of (trace_part (by_which m.which factory bench) (measures_of (by_which m.which f b)).n m.trace).contents
        ≡ get_or (traces_in (by_which m.which f b)) m.trace [])
    at m a =
        let s = stored f b query trail trail' m a in
        held_by m.which f b factory bench (length query) m.trace same same' s.0 s.1
