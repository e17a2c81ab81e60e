-- Samples in leaves off the trail do not bear on a search, of whatever tables it takes: no condition and no node is read from a sample, and
-- the traces in the leaves that the search reads are the same. The argument is one for every search, by its laws (`Searches`).
use Prim.Native.Nat.{ℕ, ◌≤◌, ◌<◌}
use mathlib.Core.Path.{◌≡◌, refl, sym, ap, subst, ◌∙◌}
use mathlib.Core.Bool.{Bool, true, false}
use mathlib.Core.Option.{Option, none, some}
use mathlib.Core.List.{List, []}
use native.Mathlib.Omega.{arith}
use lib.ListN.{length, get_or, take, length-take, get_or-eq_default}
use lib.IntN.{ℤ}
use lib.Dec.{T, ltb}
use borrow.Author.Tests.{ltb-true, ltb-false}
use Rattle.integer.specs.Words.{is_in}
use Rattle.integer.proofs.Lists.{in_is, map_agree}
use Rattle.dstree.specs.Measures.{Measures}
use Rattle.dstree.specs.KNearest.{SameIn}
use Rattle.dstree.specs.Refusals.{Refusal, first_of}
use Rattle.dstree.specs.Book.{Lent, Ask, opening, adding, searching, writing, reading, importing, exporting, checking, labelling, pairing, beside_of}
use Rattle.dstree.specs.Book.{Result, answering, Reply, reply, Found, AnySearch, search_of}
use Rattle.dstree.specs.Claims.{numbers_among}
use Rattle.dstree.specs.Remote.{codes_of}
use Rattle.tables.specs.Tables.{Tables, labelled_tables, measures_of, trace_count}
use Rattle.tables.specs.View.{trace_in, tree_in, traces_in, labels_in, kinds_named, well_formed}
use Rattle.dstree.proofs.Conditions.{none_both}
use Rattle.tables.specs.Answers.{made_conditions}
use Rattle.tables.specs.Beginning.{first_places, Begins}
use Rattle.tables.proofs.Views.{trace_at, traces_size, tree_formed}
use Rattle.tables.proofs.Beginning.{tables_same, first_begins}
use Rattle.tables.specs.Holds.{Long}
use Rattle.insertion_memory.proofs.FromTables.{long_of}
use Rattle.insertion_memory.proofs.Beginnings.{Agree, begins_agree, measures_same, tree_same}
use Rattle.calls.specs.Outcome.{Effect, unless_refused}
use Rattle.calls.specs.Effects.{opens, adds, searches, writes, reads, imports, exports, checks, tells_label, pairs, effect_of, outcome_on}
use Rattle.calls.specs.Trails.{DifferOutside}
use Rattle.calls.specs.Demands.{trail_found, SamplesOffTrail}
use Rattle.tables.proofs.Judged.{Accepted, accepted}
use Rattle.tables.proofs.Samples.{made_is}
use Rattle.calls.proofs.Searches.{laws}
use Rattle.calls.proofs.Steps.{reply_is}

-- ---- tables with other samples, as many

module _ (t : Tables) (samples : List ℤ) (as_many : length samples ≡ length t.samples) where
  abbrev with_others : Tables
  with_others = labelled_tables t.control samples t.nodes t.links t.work t.labels

  -- neither 2 nor 3 reads a sample, nor does the tree
  pub made_others : made_conditions with_others ≡ made_conditions t
  unfolding well_formed kinds_named tree_in
  made_others = rw (made_is with_others, made_is t, as_many)

  pub tree_others : tree_in with_others ≡ tree_in t
  unfolding tree_in
  tree_others = refl

  -- no condition of a search reads one
  conditions_same : (s : AnySearch) → first_of (searches with_others s).conditions ≡ first_of (searches t s).conditions
  conditions_same s = rw (made_others, tree_others)

-- ---- the traces that a search reads

-- no trace behind the last
no_trace_at : (t : Tables) (i : ℕ) → trace_count t ≤ i → get_or (traces_in t) i [] ≡ []
no_trace_at t i h = get_or-eq_default (traces_in t) [] (omega (arith, traces_size t))

module _ (lent : Lent) {these other : Tables} {trail : List ℕ} (ok : Accepted (first_places lent these))
    (differ : DifferOutside trail these other) where
  abbrev part : Tables
  part = first_places lent these

  abbrev part₂ : Tables
  part₂ = first_places lent other

  long : Long part
  long = long_of part ok.room

  pub as_many : length part₂.samples ≡ length part.samples
  as_many = simp length-take (rw differ.as_long)

  -- what the call is lent of the other
  abbrev pub also : Tables
  also = with_others part part₂.samples as_many

  pub also_is : part₂ ≡ also
  also_is = tables_same (ap (take lent.control) differ.control_same) refl
      (ap (take lent.nodes) differ.nodes_same) (ap (take lent.links) differ.links_same)
      (ap (take lent.work) differ.work_same)
      (ap (take lent.labels) differ.labels_same)

  agree : Agree part these
  agree = begins_agree (first_begins lent these) long

  also_agree : Agree also other
  also_agree = begins_agree (subst (λ (t : Tables). Begins t other) also_is (first_begins lent other))
      (record {
        control_long = long.control_long;
        samples_long = rw as_many
            long.samples_long;
        nodes_long = long.nodes_long;
        links_long = long.links_long;
      })

  -- a trace that the search reads is the same in both
  read_same : (i : ℕ) → T (is_in i (numbers_among (tree_in part) trail)) → (c : Bool) → ltb i (trace_count part) ≡ c
      → get_or (traces_in also) i [] ≡ get_or (traces_in part) i []
  read_same i read false e = let l = ltb-false i (trace_count part) e in no_trace_at also i l ∙ sym (no_trace_at part i l)
  read_same i read true e =
      let l : i < trace_count part = ltb-true i (trace_count part) e in
      let few : i < (measures_of part).capacity = omega (arith, (tree_formed part ok.formed).room) in
      let there : T (is_in i (numbers_among (tree_in these) trail)) = rw (tree_same agree ok.formed long) read in
      let same : trace_in other.samples (measures_of part).n i ≡ trace_in these.samples (measures_of part).n i =
      subst (λ (k : Measures). trace_in other.samples k.n i ≡ trace_in these.samples k.n i) (measures_same agree)
      (differ.samples_same i there) in
      trace_at also i l ∙ (sym (also_agree.samples_agree i few) ∙ (same ∙ (agree.samples_agree i few ∙ sym (trace_at part i l))))

  pub all_same : SameIn (tree_in part) trail (traces_in part) (traces_in also)
  all_same = map_agree (λ (i : ℕ). get_or (traces_in also) i []) (λ (i : ℕ). get_or (traces_in part) i []) (numbers_among (tree_in part) trail)
      (λ i read. read_same i (in_is read) (ltb i (trace_count part)) refl)

-- ---- one search after the other

-- what a call replies to tables
abbrev reply_to : Ask → Tables → Reply
reply_to ask t = reply (outcome_on ask t).answer (outcome_on ask t).beside

-- that refuses nothing of two, and answers the same of both
same_work : (ask : Ask) (t u : Tables) → first_of (effect_of ask t).conditions ≡ none
    → first_of (effect_of ask u).conditions ≡ first_of (effect_of ask t).conditions
    → (effect_of ask u).result ≡ (effect_of ask t).result → (effect_of ask u).beside ≡ (effect_of ask t).beside
    → reply_to ask u ≡ reply_to ask t
unfolding outcome_on unless_refused
same_work ask t u fine same result beside = rw (same, fine, result, beside)

-- an answer that is no refusal is the work's, and nothing was refused
pub answered : (o : Option Refusal) (t : Tables) (beside : List (List ℕ)) (e : Effect) (r : Result)
    → (unless_refused o t beside e).answer ≡ answering r → (o ≡ none) × (e.result ≡ r)
unfolding unless_refused
answered (some why) t beside e r q = let z : ◌≡◌ {A = ℕ} 0 1 = cc in absurd (omega arith)
answered none t beside e r q = (refl, cc)

module _ (lent : Lent) {these other : Tables} {trail : List ℕ} (differ : DifferOutside trail these other) where
  abbrev t : Tables
  t = first_places lent these

  abbrev Same : Ask → Type 0
  Same ask = first_of (effect_of ask t).conditions ≡ none → trail_found (effect_of ask t).result ≡ some trail
      → reply_to ask (first_places lent other) ≡ reply_to ask t

  -- no other call answers with a trail
  any_same : (ask : Ask) → Same ask
  unfolding effect_of opens adds writes reads imports exports checks tells_label pairs trail_found tree_in labels_in
  any_same (searching q) fine found =
      let ok = accepted t (none_both (made_conditions t) _ fine).0 in
      let u = also lent ok differ in
      let both = (laws q).unmoved (measures_of t) (traces_in t) (traces_in u) (codes_of (labels_in t)) (tree_in t) trail found (all_same lent ok differ) in
      ap (reply_to (searching q)) (also_is lent ok differ)
      ∙ same_work (searching q) t u fine (conditions_same t u.samples (as_many lent ok differ) (search_of q))
      (ap (λ (f : Found). f.result) both) (ap (λ (f : Found). f.beside) both)
  any_same (opening m) fine found = let z : ◌≡◌ {A = ℕ} 0 1 = cc in absurd (omega arith)
  any_same (adding x l) fine found = let z : ◌≡◌ {A = ℕ} 0 1 = cc in absurd (omega arith)
  any_same (writing sheet) fine found = let z : ◌≡◌ {A = ℕ} 0 1 = cc in absurd (omega arith)
  any_same (reading bytes) fine found = let z : ◌≡◌ {A = ℕ} 0 1 = cc in absurd (omega arith)
  any_same (importing bytes) fine found = let z : ◌≡◌ {A = ℕ} 0 1 = cc in absurd (omega arith)
  any_same (exporting number rate buffer) fine found = let z : ◌≡◌ {A = ℕ} 0 1 = cc in absurd (omega arith)
  any_same checking fine found = let z : ◌≡◌ {A = ℕ} 0 1 = cc in absurd (omega arith)
  any_same (labelling number) fine found = let z : ◌≡◌ {A = ℕ} 0 1 = cc in absurd (omega arith)
  any_same (pairing which other query place) fine found = let z : ◌≡◌ {A = ℕ} 0 1 = cc in absurd (omega arith)

-- ---- the law

pub off_trail : SamplesOffTrail
unfolding outcome_on
off_trail c these these' said f r trail answers found other other' reply₂ differ g =
    let part = first_places c.lent these in
    let e = effect_of c.ask part in
    let said_is = sym (ap (λ (x : Reply). x.answer) (reply_is f)) ∙ answers in
    let known = answered (first_of e.conditions) part (beside_of c.ask) e r said_is in
    reply_is g
    ∙ (any_same c.lent differ c.ask known.0 (ap trail_found known.1 ∙ found) ∙ sym (reply_is f))
