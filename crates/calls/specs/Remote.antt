-- Document 02, §8, on any memory: the jog remote's one call is "a match whose answer adds the fault code and nothing else"; and "Two
-- libraries alike but for serials must give the remote equal answers and equal refusals".
use Rattle.std.specs.Prelude.{ℕ, ◌%◌, ◌<◌, ◌≡◌, List, map, get_or, set, T}
use Rattle.integer.specs.Words.{every}
use Rattle.dstree.specs.Measures.{Trace}
use Rattle.dstree.specs.Labels.{label, code_limit, label_place}
use Rattle.dstree.specs.Matching.{Match}
use Rattle.dstree.specs.Refusals.{Refusal}
use Rattle.dstree.specs.Book.{Lent, matching, remote_matching, Call, call, matched, remote_matched, refusing, answering, Reply}
use Rattle.dstree.specs.Remote.{codes_of, is_remote}
use Rattle.tables.specs.Tables.{Tables, with_labels, trace_count}
use Rattle.tables.specs.View.{labels_in}
use Rattle.tables.specs.Beginning.{first_places}
use Rattle.calls.specs.Follows.{Follows, Ran}

-- ---- "The jog remote has one call, a match whose answer adds the fault code and nothing else"

-- a call of the remote's, and the match of the same query with the same trail, asked instead: it leaves the same memory. So what is claimed
-- of a match holds of the remote's
pub record RemoteMatches (lent : Lent) (query : Trace) (trail : List ℕ) (memory : Tables) (said : Reply) (memory' : Tables) : Type 0 where
  pub match_said : Reply
  pub is_match : Follows (call lent (matching query trail)) memory match_said memory'
  -- the same refusal, the same trail
  pub refused_same : (why : Refusal) → said.answer ≡ refusing why → match_said.answer ≡ refusing why
  pub beside_same : said.beside ≡ match_said.beside
  -- what the match answers, with the fault code of the trace that it names ..
  pub adds_code : (m : Match) → match_said.answer ≡ answering (matched m)
      → said.answer ≡ answering (remote_matched m (get_or (codes_of (labels_in (first_places lent memory))) m.trace 0))
  -- .. and so the other way: "nothing else"
  pub answer_same : (m : Match) (code : ℕ) → said.answer ≡ answering (remote_matched m code) → match_said.answer ≡ answering (matched m)
  pub code_is : (m : Match) (code : ℕ) → said.answer ≡ answering (remote_matched m code)
      → code ≡ get_or (codes_of (labels_in (first_places lent memory))) m.trace 0
  -- the trace is one of the library, whoever made the tables
  pub is_stored : (m : Match) (code : ℕ) → said.answer ≡ answering (remote_matched m code) → m.trace < trace_count (first_places lent memory)

abbrev pub RemoteIsMatch : Type 0
RemoteIsMatch = (lent : Lent) (query : Trace) (trail : List ℕ) (memory memory' : Tables) (said : Reply)
    → Follows (call lent (remote_matching query trail)) memory said memory' → RemoteMatches lent query trail memory said memory'

-- ---- "Two libraries alike but for serials must give the remote equal answers and equal refusals"

-- a place's fault code, its low 16 bits
abbrev pub code_at : ℕ → ℕ
code_at place = place % code_limit

-- memories that are alike "but for serials": the same places in every table, and of labels the same codes, so that they are as long. They
-- may hold anything, spoiled and altered tables too
pub record AlikeButSerials (these other : Tables) : Type 0 where
  pub control_same : other.control ≡ these.control
  pub samples_same : other.samples ≡ these.samples
  pub nodes_same : other.nodes ≡ these.nodes
  pub links_same : other.links ≡ these.links
  pub work_same : other.work ≡ these.work
  pub codes_same : map code_at other.labels ≡ map code_at these.labels

-- with another serial at a place
abbrev pub with_serial : Tables → ℕ → ℕ → Tables
with_serial t place serial = with_labels (set t.labels place (label_place (label (code_at (get_or t.labels place 0)) serial))) t

-- there are such memories: every serial may be any number, one after another
pub record MayDifferInSerials (these : Tables) : Type 0 where
  pub not_at_all : AlikeButSerials these these
  pub in_a_serial : (other : Tables) → AlikeButSerials these other → (place serial : ℕ)
      → AlikeButSerials these (with_serial other place serial)

-- "equal answers and equal refusals", and equal trails, however often the remote asks and whatever it is lent. The memories are then alike
-- again, search work the same. "the remote neither writes nor reads sheets": what calls are the remote's says dstree's `is_remote`
abbrev pub RemoteSeesNoSerials : Type 0
RemoteSeesNoSerials = (calls : List Call) → T (every (λ (c : Call). is_remote c.ask) calls)
    → (these these' other other' : Tables) (said also : List Reply) → Ran these calls said these' → Ran other calls also other'
    → AlikeButSerials these other → (also ≡ said) × AlikeButSerials these' other'
