-- A call on a memory that keeps a book, whichever it is: its reply is the book's, and the memory then keeps the book after the call. So a
-- list of calls is answered as the book says, from the first that succeeded on.
use Prim.Native.Nat.{ℕ}
use mathlib.Core.Path.{◌≡◌, refl, sym, ap, subst, ◌∙◌}
use mathlib.Core.Option.{Option, none, some}
use mathlib.Core.List.{List, [], ◌∷◌}
use native.Mathlib.Omega.{arith}
use Rattle.dstree.specs.Measures.{measures}
use Rattle.dstree.specs.Refusals.{Refusal, first_of}
use Rattle.dstree.specs.Book.{Lent, Ask, opening, adding, searching, writing, reading, importing, exporting, checking, labelling, pairing}
use Rattle.dstree.specs.Book.{Call, call, beside_of, done, answering, search_of}
use Rattle.dstree.specs.Book.{Book, book, Entry, opening_entry, reading_entry, entry_of, judge, put_unless, turn, after, reply_unless, start}
use Rattle.dstree.specs.Book.{Reply, reply, reply_of, replies_of}
use Rattle.dstree.specs.Remote.{codes_of}
use Rattle.tables.specs.Layout.{layout}
use Rattle.tables.specs.Tables.{Tables, measures_of}
use Rattle.tables.specs.View.{tree_in, traces_in, labels_in}
use Rattle.tables.specs.Beginning.{first_places, left, Begins}
use Rattle.tables.proofs.Beginning.{left_same, first_begins}
use Rattle.calls.specs.Outcome.{Effect, Outcome, unless_refused, outcome_of}
use Rattle.calls.specs.Library.{Keeps}
use Rattle.calls.specs.Effects.{adds, searches, writes, imports, exports, checks, tells_label, pairs, effect_of, outcome_on}
use Rattle.calls.specs.Follows.{Typed, Follows, Ran, no_call, a_call}
use Rattle.calls.proofs.Searches.{laws}
use Rattle.calls.proofs.Agrees.{Agrees, opening_agrees, reading_agrees, agrees}

-- ---- the shape of every step, by the refusal that the book finds

module _ (memory part : Tables) (b : Book) (beside : List (List ℕ)) {e : Effect} {n : Entry} (a : Agrees memory e n) where
  abbrev by : Option Refusal → Outcome
  by o = unless_refused o part beside e

  step_by : Begins part memory → Keeps memory b → (o : Option Refusal) → first_of n.conditions ≡ o
      → (reply (by o).answer (by o).beside ≡ reply_unless o beside n) × Keeps (left (by o).after memory) (put_unless o b n)
  unfolding unless_refused reply_unless put_unless
  step_by begins keeps (some why) f = (refl, rw (left_same part memory begins) keeps)
  step_by begins keeps none f = (rw (a.result_is f, a.beside_is f), a.puts f)

  -- "just succeeded": whatever the memory held, it then keeps what the call puts
  start_by : (outcome_of part beside e).answer ≡ answering done → Keeps (left (outcome_of part beside e).after memory) n.puts
  unfolding unless_refused
  start_by = at (first_of e.conditions) a.judged
    where
      at : (o : Option Refusal) → o ≡ first_of n.conditions → (by o).answer ≡ answering done → Keeps (left (by o).after memory) n.puts
      at (some why) f d = let z : ◌≡◌ {A = ℕ} 0 1 = cc in absurd (omega arith)
      at none f d = a.puts (sym f)

-- ---- one call

module _ {c : Call} {memory memory' : Tables} {said : Reply} (f : Follows c memory said memory') where
  abbrev part : Tables
  part = first_places c.lent memory

  abbrev on_part : Outcome
  on_part = outcome_of part (beside_of c.ask) (effect_of c.ask part)

  pub reply_is : said ≡ reply on_part.answer on_part.beside
  unfolding outcome_on
  reply_is = ap (λ (o : Outcome). reply o.answer o.beside) f.follows

  pub memory_is : memory' ≡ left on_part.after memory
  unfolding outcome_on
  memory_is = ap (λ (o : Outcome). o.after) f.follows

  pub stepped : {b : Book} → Keeps memory b → (said ≡ reply_of layout b c) × Keeps memory' (turn layout b c)
  unfolding reply_of turn judge
  stepped {b} keeps =
      let a : Agrees memory (effect_of c.ask part) (entry_of layout c.lent b c.ask) =
      subst (λ (l : Lent). Agrees memory (effect_of c.ask part) (entry_of layout l b c.ask)) f.has_places
      (agrees memory part (first_begins c.lent memory) b keeps c.ask f.typed) in
      let s = step_by memory part b (beside_of c.ask) a (first_begins c.lent memory) keeps (judge layout b c) refl in
      (reply_is ∙ (rw a.judged s.0), rw (memory_is, a.judged) s.1)

-- ---- the first call

-- only an opening and a reading answer `done`
not_done : (o : Option Refusal) (t : Tables) (beside : List (List ℕ)) (e : Effect) → (o ≡ none → e.result ≡ done → ⊥)
    → (unless_refused o t beside e).answer ≡ answering done → ⊥
unfolding unless_refused
not_done (some why) t beside e f d = let z : ◌≡◌ {A = ℕ} 0 1 = cc in absurd (omega arith)
not_done none t beside e f d = f refl (cc)

module _ (memory part : Tables) (lent : Lent) where
  abbrev no_book : Book
  no_book = book (measures 0 0 0) [] []

  started_by : (ask : Ask) → Typed ask → (outcome_on ask part).answer ≡ answering done
      → Keeps (left (outcome_on ask part).after memory) (start layout (call lent ask))
  unfolding outcome_on effect_of beside_of entry_of start opening_entry reading_entry adds writes imports exports checks tells_label pairs Typed
  started_by (opening m) typed d = start_by memory part no_book [] (opening_agrees memory part no_book m) d
  started_by (adding x l) typed d = absurd (not_done _ part [] (adds part x l) (λ e r. let z : ◌≡◌ {A = ℕ} 0 1 = cc in omega arith) d)
  started_by (searching q) typed d = absurd (not_done _ part _ (searches part (search_of q))
      (λ e r. ((laws q).own_answer (measures_of part) (traces_in part) (codes_of (labels_in part)) (tree_in part)).0 r) d)
  started_by (writing sheet) typed d = absurd (not_done _ part (sheet ∷ []) (writes part sheet)
      (λ e r. let z : ◌≡◌ {A = ℕ} 0 1 = cc in omega arith) d)
  started_by (reading bytes) typed d = start_by memory part no_book [] (reading_agrees memory part no_book bytes typed) d
  started_by (importing bytes) typed d = absurd (not_done _ part [] (imports part bytes)
      (λ e r. let z : ◌≡◌ {A = ℕ} 0 1 = cc in omega arith) d)
  started_by (exporting number rate buffer) typed d = absurd (not_done _ part (buffer ∷ []) (exports part number rate buffer)
      (λ e r. let z : ◌≡◌ {A = ℕ} 0 1 = cc in omega arith) d)
  started_by checking typed d = absurd (not_done _ part [] (checks part) (λ e r. let z : ◌≡◌ {A = ℕ} 0 1 = cc in omega arith) d)
  started_by (labelling number) typed d = absurd (not_done _ part [] (tells_label part number)
      (λ e r. let z : ◌≡◌ {A = ℕ} 0 1 = cc in omega arith) d)
  started_by (pairing which other query trail) typed d =
      absurd (not_done _ part (trail ∷ other.trail ∷ other.work ∷ []) (pairs part which other query trail)
      (λ e r. let z : ◌≡◌ {A = ℕ} 0 1 = cc in omega arith) d)

pub started : {c : Call} {memory memory' : Tables} {said : Reply} → Follows c memory said memory' → said.answer ≡ answering done
    → Keeps memory' (start layout c)
unfolding outcome_on
started {c} {memory} f d =
    rw (memory_is f) (started_by memory (first_places c.lent memory) c.lent c.ask f.typed
    (sym (ap (λ (r : Reply). r.answer) (reply_is f)) ∙ d))

-- ---- a list of calls

pub ran : {b : Book} {memory memory' : Tables} {calls : List Call} {said : List Reply} → Keeps memory b → Ran memory calls said memory'
    → (said ≡ replies_of layout b calls) × Keeps memory' (after layout b calls)
unfolding replies_of after
ran keeps no_call = (refl, keeps)
ran {b} keeps (a_call {c} f rest) =
    let s = stepped f keeps in
    let r = ran {b = turn layout b c} s.1 rest in
    (rw (s.0, r.0), r.1)
