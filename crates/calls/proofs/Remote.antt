-- The jog remote's call, on any memory: it is the match of the same query with a code beside it; and it does not see serials, since a search
-- is given of labels their codes alone.
use Prim.Native.Nat.{ℕ, ◌<◌}
use mathlib.Core.Path.{◌≡◌, refl, sym, ap, ◌∙◌}
use mathlib.Core.Option.{Option, none, some}
use mathlib.Core.List.{List, [], ◌∷◌, map}
use native.Mathlib.Omega.{arith}
use lib.ListN.{length, get_or, take, length-map, get_or-map}
use lib.Seq.{get_or-take, map-set_same}
use lib.Dec.{T}
use mir.Facts.{and_yes}
use Rattle.integer.specs.Words.{every}
use Rattle.integer.proofs.Lists.{map_take}
use Rattle.dstree.specs.Measures.{Trace}
use Rattle.dstree.specs.Labels.{label, label_place, label_at}
use Rattle.dstree.specs.Matching.{Match, searched}
use Rattle.dstree.specs.Refusals.{Refusal, first_of}
use Rattle.dstree.specs.Book.{Lent, Sought, Ask, opening, adding, searching, writing, reading, importing, exporting, checking, labelling, pairing}
use Rattle.dstree.specs.Book.{matching, remote_matching, Call, call, beside_of, matched, remote_matched, answering, Reply, reply}
use Rattle.dstree.specs.Book.{AnySearch, match_seen, search_of}
use Rattle.dstree.specs.Remote.{codes_of, is_remote}
use Rattle.tables.specs.Tables.{Tables, with_labels, measures_of, trace_count}
use Rattle.tables.specs.View.{tree_in, traces_in, labels_in, kinds_named, well_formed, samples_inside, is_spoiled}
use Rattle.tables.specs.Beginning.{over, first_places, left}
use Rattle.tables.specs.Answers.{made_conditions}
use Rattle.tables.proofs.Beginning.{tables_same, left_same, first_begins}
use Rattle.calls.specs.Outcome.{Outcome, outcome, unless_refused}
use Rattle.calls.specs.Effects.{cleared, searches, matches, remotes, effect_of, outcome_on}
use Rattle.calls.specs.Follows.{Typed, outcome_in, Follows, no_call, a_call}
use Rattle.calls.specs.Remote.{RemoteMatches, RemoteIsMatch, code_at, AlikeButSerials, MayDifferInSerials, RemoteSeesNoSerials}
use Rattle.calls.proofs.Finds.{found_stored}
use Rattle.calls.proofs.Steps.{reply_is, memory_is}
use Rattle.calls.proofs.OneCall.{one_call}
use Rattle.calls.proofs.OffTrail.{answered}
use Rattle.calls.proofs.Trusting.{refused_with}

-- ---- codes

codes_at : (places : List ℕ) → codes_of (map label_at places) ≡ map code_at places
unfolding label_at
codes_at [] = refl
codes_at (p ∷ places) = ap (λ (l : List ℕ). code_at p ∷ l) (codes_at places)

codes_are : (t : Tables) → codes_of (labels_in t) ≡ take (trace_count t) (map code_at t.labels)
unfolding labels_in
codes_are t = codes_at (take (trace_count t) t.labels) ∙ map_take code_at (trace_count t) t.labels

-- a stored trace's code is that of its place
pub code_at_lem : (t : Tables) (i : ℕ) → i < trace_count t → get_or (codes_of (labels_in t)) i 0 ≡ code_at (get_or t.labels i 0)
code_at_lem t i inside =
    ap (λ (l : List ℕ). get_or l i 0) (codes_are t)
    ∙ (get_or-take (trace_count t) (map code_at t.labels) i 0 inside ∙ get_or-map code_at t.labels i 0)

-- ---- the match of the same query

module _ (part : Tables) (query : Trace) (trail : List ℕ) where
  -- refused or not, both leave the same
  after_same : (o : Option Refusal) → (unless_refused o part (trail ∷ []) (remotes part query trail)).after
      ≡ (unless_refused o part (trail ∷ []) (matches part query trail)).after
  unfolding unless_refused
  after_same (some why) = refl
  after_same none = refl

  trail_same : (o : Option Refusal) → (unless_refused o part (trail ∷ []) (remotes part query trail)).beside
      ≡ (unless_refused o part (trail ∷ []) (matches part query trail)).beside
  unfolding unless_refused
  trail_same (some why) = refl
  trail_same none = refl

module _ {lent : Lent} {query : Trace} {trail : List ℕ} {memory memory' : Tables} {said : Reply}
    (f : Follows (call lent (remote_matching query trail)) memory said memory') where
  abbrev t : Tables
  t = first_places lent memory

  abbrev as_match : Outcome
  as_match = outcome_in (call lent (matching query trail)) memory

  abbrev match_said : Reply
  match_said = reply as_match.answer as_match.beside

  follows_match : Follows (call lent (matching query trail)) memory match_said memory'
  unfolding Typed outcome_on effect_of beside_of
  follows_match = record {
    has_places = f.has_places;
    typed = tt;
    follows = ap (λ (k : Tables). outcome as_match.answer k as_match.beside)
        (memory_is f ∙ ap (λ (k : Tables). left k memory) (after_same t query trail (first_of (matches t query trail).conditions)));
  }

  module _ (m : Match) (code : ℕ) (a : said.answer ≡ answering (remote_matched m code)) where
    known : (first_of (remotes t query trail).conditions ≡ none) × ((remotes t query trail).result ≡ remote_matched m code)
    unfolding effect_of beside_of
    known = answered (first_of (remotes t query trail).conditions) t (trail ∷ []) (remotes t query trail) (remote_matched m code)
        (sym (ap (λ (r : Reply). r.answer) (reply_is f)) ∙ a)

    match_is : let s = searched (traces_in t) (tree_in t) query in match_seen s s.best ≡ m
    match_is = cc known.1

    answers_match : match_said.answer ≡ answering (matched m)
    unfolding effect_of
    answers_match = ap (λ (r : Reply). r.answer) ((one_call _ memory memory' match_said follows_match).works known.0).0
        ∙ ap (λ (k : Match). answering (matched k)) match_is

    has_code : code ≡ get_or (codes_of (labels_in t)) m.trace 0
    has_code =
        let s = searched (traces_in t) (tree_in t) query in
        let is : get_or (codes_of (labels_in t)) (match_seen s s.best).trace 0 ≡ code = cc known.1 in
        sym is ∙ ap (λ (k : Match). get_or (codes_of (labels_in t)) k.trace 0) match_is

    of_stored : m.trace < trace_count t
    of_stored = rw (← match_is) (found_stored t query trail known.0)

  codes_added : (m : Match) → match_said.answer ≡ answering (matched m)
      → said.answer ≡ answering (remote_matched m (get_or (codes_of (labels_in t)) m.trace 0))
  unfolding outcome_on effect_of beside_of
  codes_added m a =
      let e = matches t query trail in
      let done = answered (first_of e.conditions) t (trail ∷ []) e (matched m) a in
      let s = searched (traces_in t) (tree_in t) query in
      let is : match_seen s s.best ≡ m = cc done.1 in
      ap (λ (r : Reply). r.answer) ((one_call _ memory memory' said f).works done.0).0
      ∙ ap (λ (k : Match). answering (remote_matched k (get_or (codes_of (labels_in t)) k.trace 0))) is

  pub remote_match : RemoteMatches lent query trail memory said memory'
  unfolding outcome_on effect_of beside_of
  remote_match = record {
    match_said = match_said;
    is_match = follows_match;
    refused_same = λ why a. (one_call _ memory memory' match_said follows_match).refuses why
        (refused_with (first_of (remotes t query trail).conditions) t (trail ∷ []) (remotes t query trail) why
        (sym (ap (λ (r : Reply). r.answer) (reply_is f)) ∙ a));
    beside_same = ap (λ (r : Reply). r.beside) (reply_is f) ∙ trail_same t query trail (first_of (matches t query trail).conditions);
    adds_code = codes_added;
    answer_same = answers_match;
    code_is = has_code;
    is_stored = of_stored;
  }

pub remote_is_match : RemoteIsMatch
remote_is_match lent query trail memory memory' said f = remote_match f

-- ---- serials

-- the outcome with other labels behind it
abbrev relabelled : List ℕ → Outcome → Outcome
relabelled labels o = outcome o.answer (with_labels labels o.after) o.beside

-- any search, on tables with other labels of the same codes
module _ (t : Tables) (labels : List ℕ) (same : map code_at labels ≡ map code_at t.labels) (q : Sought) where
  abbrev s : AnySearch
  s = search_of q

  as_many : length labels ≡ length t.labels
  as_many = sym (length-map labels code_at) ∙ (ap length same ∙ length-map t.labels code_at)

  same_conditions : first_of (searches (with_labels labels t) s).conditions ≡ first_of (searches t s).conditions
  unfolding made_conditions is_spoiled samples_inside well_formed kinds_named tree_in traces_in
  same_conditions = rw as_many refl

  same_codes : codes_of (labels_in (with_labels labels t)) ≡ codes_of (labels_in t)
  same_codes = codes_are (with_labels labels t) ∙ (ap (take (trace_count t)) same ∙ sym (codes_are t))

  by : (o : Option Refusal)
      → unless_refused o (with_labels labels t) s.lends (searches (with_labels labels t) s)
      ≡ relabelled labels (unless_refused o t s.lends (searches t s))
  unfolding unless_refused tree_in traces_in
  by (some why) = refl
  by none =
      ap (λ (codes : List ℕ). let found = s.steps (measures_of t) (traces_in t) codes (tree_in t) in
      outcome (answering found.result) (with_labels labels (cleared t)) found.beside) same_codes

  -- the same outcome, with these labels
  other_labels : outcome_on (searching q) (with_labels labels t) ≡ relabelled labels (outcome_on (searching q) t)
  unfolding outcome_on effect_of beside_of
  other_labels =
      ap (λ (o : Option Refusal). unless_refused o (with_labels labels t) s.lends (searches (with_labels labels t) s)) same_conditions
      ∙ by (first_of (searches t s).conditions)

-- a search leaves the labels that tables had
labels_left : (t : Tables) (q : Sought) → (outcome_on (searching q) t).after.labels ≡ t.labels
unfolding outcome_on effect_of beside_of unless_refused
labels_left t q = by (first_of (searches t (search_of q)).conditions)
  where
    by : (o : Option Refusal) → (unless_refused o t (search_of q).lends (searches t (search_of q))).after.labels ≡ t.labels
    by (some why) = refl
    by none = refl

module _ (lent : Lent) (q : Sought) {these these' other other' : Tables} {said also : Reply}
    (f : Follows (call lent (searching q)) these said these') (g : Follows (call lent (searching q)) other also other')
    (a : AlikeButSerials these other) where
  abbrev part : Tables
  part = first_places lent these

  abbrev labels₂ : List ℕ
  labels₂ = take lent.labels other.labels

  abbrev done : Outcome
  done = outcome_on (searching q) part

  part_is : first_places lent other ≡ with_labels labels₂ part
  part_is = tables_same (ap (take lent.control) a.control_same) (ap (take lent.samples) a.samples_same)
      (ap (take lent.nodes) a.nodes_same) (ap (take lent.links) a.links_same) (ap (take lent.work) a.work_same) refl

  codes_lent : map code_at labels₂ ≡ map code_at part.labels
  codes_lent =
      map_take code_at lent.labels other.labels
      ∙ (ap (take lent.labels) a.codes_same ∙ sym (map_take code_at lent.labels these.labels))

  done_there : outcome_on (searching q) (first_places lent other) ≡ relabelled labels₂ done
  done_there = ap (outcome_on (searching q)) part_is ∙ other_labels part labels₂ codes_lent q

  told_same : also ≡ said
  unfolding outcome_on
  told_same = reply_is g ∙ (ap (λ (o : Outcome). reply o.answer o.beside) done_there ∙ sym (reply_is f))

  here : these' ≡ left done.after these
  unfolding outcome_on
  here = memory_is f

  there : other' ≡ left (with_labels labels₂ done.after) other
  unfolding outcome_on
  there = memory_is g ∙ ap (λ (o : Outcome). left o.after other) done_there

  -- labels stay, in either memory
  labels_here : these'.labels ≡ these.labels
  labels_here =
      ap (λ (t : Tables). t.labels) here
      ∙ (ap (λ (l : List ℕ). over l these.labels) (labels_left part q)
      ∙ ap (λ (t : Tables). t.labels) (left_same part these (first_begins lent these)))

  labels_there : other'.labels ≡ other.labels
  labels_there =
      ap (λ (t : Tables). t.labels) there
      ∙ ap (λ (t : Tables). t.labels) (left_same (first_places lent other) other (first_begins lent other))

  pub search_sees : (also ≡ said) × AlikeButSerials these' other'
  search_sees = (
    told_same,
    record {
      control_same = ap (λ (t : Tables). t.control) there
          ∙ (ap (over done.after.control) a.control_same ∙ sym (ap (λ (t : Tables). t.control) here));
      samples_same = ap (λ (t : Tables). t.samples) there
          ∙ (ap (over done.after.samples) a.samples_same ∙ sym (ap (λ (t : Tables). t.samples) here));
      nodes_same = ap (λ (t : Tables). t.nodes) there
          ∙ (ap (over done.after.nodes) a.nodes_same ∙ sym (ap (λ (t : Tables). t.nodes) here));
      links_same = ap (λ (t : Tables). t.links) there
          ∙ (ap (over done.after.links) a.links_same ∙ sym (ap (λ (t : Tables). t.links) here));
      work_same = ap (λ (t : Tables). t.work) there
          ∙ (ap (over done.after.work) a.work_same ∙ sym (ap (λ (t : Tables). t.work) here));
      codes_same = ap (map code_at) labels_there ∙ (a.codes_same ∙ sym (ap (map code_at) labels_here));
    },
  )

-- "The jog remote has one call"
one_sees : (ask : Ask) (lent : Lent) {these these' other other' : Tables} {said also : Reply} → T (is_remote ask)
    → Follows (call lent ask) these said these' → Follows (call lent ask) other also other' → AlikeButSerials these other
    → (also ≡ said) × AlikeButSerials these' other'
unfolding is_remote
one_sees (searching q) lent is f g a = search_sees lent q f g a
one_sees (opening m) lent is f g a = absurd is
one_sees (adding x l) lent is f g a = absurd is
one_sees (writing sheet) lent is f g a = absurd is
one_sees (reading bytes) lent is f g a = absurd is
one_sees (importing bytes) lent is f g a = absurd is
one_sees (exporting number rate buffer) lent is f g a = absurd is
one_sees checking lent is f g a = absurd is
one_sees (labelling number) lent is f g a = absurd is
one_sees (pairing which o query trail) lent is f g a = absurd is

pub sees_no_serials : RemoteSeesNoSerials
unfolding every
sees_no_serials [] are these these' other other' said also no_call no_call a = (refl, a)
sees_no_serials (c ∷ calls) are these these' other other' said also (a_call f rest) (a_call g others) a =
    let both = and_yes (is_remote c.ask) (every (λ (c : Call). is_remote c.ask) calls) are in
    let one = one_sees c.ask c.lent both.0 f g a in
    let r = sees_no_serials calls both.1 _ these' _ other' _ _ rest others one.1 in
    (rw (one.0, r.0) refl, r.1)

-- ---- there are such memories

same_code : (place serial : ℕ) → code_at (label_place (label (code_at place) serial)) ≡ code_at place
unfolding label_place
same_code place serial = omega arith

pub serials_may_differ : (these : Tables) → MayDifferInSerials these
serials_may_differ these = record {
  not_at_all = record {
    control_same = refl;
    samples_same = refl;
    nodes_same = refl;
    links_same = refl;
    work_same = refl;
    codes_same = refl;
  };
  in_a_serial = λ other a place serial. record {
    control_same = a.control_same;
    samples_same = a.samples_same;
    nodes_same = a.nodes_same;
    links_same = a.links_same;
    work_same = a.work_same;
    codes_same = map-set_same code_at other.labels place _ 0 (same_code (get_or other.labels place 0) serial) ∙ a.codes_same;
  };
}
