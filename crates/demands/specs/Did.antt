-- What a call of the code did: its arguments and what it left, of which its contract speaks, and where its slices lie in a memory.
use Rattle.std.specs.Prelude.{ℕ, ◌-◌, ◌≡◌, Bool, List, [], ◌∷◌, ℤ, length}
use Rattle.std.specs.Borrow.{Bor, MutBor}
use denote.Ref.{as_bor}
use denote.Triple.Clauses.{AtExit}
use borrow.Fn.Kinds.{ParamKind, ResultKind, Dens, ended_of, Out, res_t}
use contract.Lifetimes.{Lfts}
use Rattle.dstree.specs.Measures.{measures}
use Rattle.dstree.specs.Labels.{label, no_label}
use Rattle.dstree.specs.KNearest.{list_places}
use Rattle.dstree.specs.Pair.{of_factory, of_bench}
use Rattle.dstree.specs.Book.{Ask, opening, adding, matching, writing, reading, listing, importing, exporting, checking, Call, Answer}
use Rattle.dstree.specs.Book.{batching, labelling, remote_matching, banding, limiting, clipping, pairing, Reply, reply}
use Rattle.tables.specs.Tables.{Tables, labelled_tables, lent_of}
use Rattle.tables.specs.Beginning.{first_places, left}
use Rattle.calls.specs.Effects.{other_in}
use Rattle.calls.specs.Follows.{Typed}
use Rattle.opening.specs.Opened as opening_answer
use Rattle.opening.proofs.open.Kinds as open_kinds
use Rattle.opening.proofs.open.Reads as open_reads
use Rattle.adding.specs.Answered as adding_answer
use Rattle.adding.proofs.add.Kinds as add_kinds
use Rattle.adding.proofs.add.Reads as add_reads
use Rattle.adding.proofs.add_labelled.Kinds as add_labelled_kinds
use Rattle.adding.proofs.add_labelled.Reads as add_labelled_reads
use Rattle.matching.specs.Answered as matching_answer
use Rattle.matching.proofs.nearest.Kinds as nearest_kinds
use Rattle.matching.proofs.nearest.Reads as nearest_reads
use Rattle.listing.specs.Answered as listing_answer
use Rattle.listing.proofs.k_nearest.Kinds as list_kinds
use Rattle.listing.proofs.k_nearest.Reads as list_reads
use Rattle.sheet_writing.specs.Answered as writing_answer
use Rattle.sheet_writing.proofs.write_sheet.Kinds as write_kinds
use Rattle.sheet_writing.proofs.write_sheet.Reads as write_reads
use Rattle.sheet_reading.specs.Answered as reading_answer
use Rattle.sheet_reading.proofs.read_sheet.Kinds as read_kinds
use Rattle.sheet_reading.proofs.read_sheet.Reads as read_reads
use Rattle.importing.specs.Answered as importing_answer
use Rattle.importing.proofs.import_recording.Kinds as import_kinds
use Rattle.importing.proofs.import_recording.Reads as import_reads
use Rattle.exporting.specs.Answered as exporting_answer
use Rattle.exporting.proofs.export_recording.Kinds as export_kinds
use Rattle.exporting.proofs.export_recording.Reads as export_reads
use Rattle.checking.specs.Answered as checking_answer
use Rattle.checking.proofs.check_tables.Kinds as check_kinds
use Rattle.checking.proofs.check_tables.Reads as check_reads
use Rattle.batching.specs.declared.AnswerRecord.{AnswerRecord}
use Rattle.batching.specs.declared.BatchFound.{BatchFound}
use Rattle.batching.specs.Answered as batching_answer
use Rattle.batching.proofs.match_all.Kinds as batch_kinds
use Rattle.batching.proofs.match_all.Reads as batch_reads
use Rattle.labelling.specs.Answered as labelling_answer
use Rattle.labelling.proofs.label.Kinds as label_kinds
use Rattle.labelling.proofs.label.Reads as label_reads
use Rattle.remote.specs.Answered as remote_answer
use Rattle.remote.proofs.remote_match.Kinds as remote_kinds
use Rattle.remote.proofs.remote_match.Reads as remote_reads
use Rattle.banding.specs.Answered as banding_answer
use Rattle.banding.proofs.count_bands.Kinds as band_kinds
use Rattle.banding.proofs.count_bands.Reads as band_reads
use Rattle.pairing.specs.Answered as pairing_answer
use Rattle.pairing.proofs.match_both.Kinds as pair_kinds
use Rattle.pairing.proofs.match_both.Reads as pair_reads
use Rattle.limiting.specs.Answered as limiting_answer
use Rattle.limiting.proofs.match_within.Kinds as limit_kinds
use Rattle.limiting.proofs.match_within.Reads as limit_reads
use Rattle.clipping.specs.Answered as clipping_answer
use Rattle.clipping.proofs.match_clipped.Kinds as clip_kinds
use Rattle.clipping.proofs.match_clipped.Reads as clip_reads
use Rattle.batch_answers.specs.AnswerRecords.{store_outcome, store_of, nears_of}

-- ---- slices

-- every call is lent the six tables first, to write or to read, and then what is its own, in the order of its parameters. The same stands
-- at its end; what it left there has a ' below. Here all six are lent to read
abbrev pub WithTables : Type 0 → Type 0
WithTables Own = Bor (List ℕ) × (Bor (List ℤ) × (Bor (List ℤ) × (Bor (List ℕ) × (Bor (List ℕ) × (Bor (List ℕ) × Own)))))

-- .. all six to write: opening and reading
abbrev pub ToWrite : Type 0 → Type 0
ToWrite Own = MutBor (List ℕ) × (MutBor (List ℤ) × (MutBor (List ℤ) × (MutBor (List ℕ) × (MutBor (List ℕ) × (MutBor (List ℕ) × Own)))))

-- .. all but search work to write: adding and importing
abbrev pub ToAdd : Type 0 → Type 0
ToAdd Own = MutBor (List ℕ) × (MutBor (List ℤ) × (MutBor (List ℤ) × (MutBor (List ℕ) × (Bor (List ℕ) × (MutBor (List ℕ) × Own)))))

-- .. search work alone to write: a search
abbrev pub ToSearch : Type 0 → Type 0
ToSearch Own = Bor (List ℕ) × (Bor (List ℤ) × (Bor (List ℤ) × (Bor (List ℕ) × (MutBor (List ℕ) × (Bor (List ℕ) × Own)))))

-- the same slices as they are seen: where each lies, and what it holds
module _ {Own : Type 0} where
  abbrev pub written_tables : ToWrite Own → WithTables Own
  written_tables s = (as_bor s.0, (as_bor s.1.0, (as_bor s.1.1.0, (as_bor s.1.1.1.0, (as_bor s.1.1.1.1.0, (as_bor s.1.1.1.1.1.0, s.1.1.1.1.1.1))))))

  abbrev pub added_tables : ToAdd Own → WithTables Own
  added_tables s = (as_bor s.0, (as_bor s.1.0, (as_bor s.1.1.0, (as_bor s.1.1.1.0, (s.1.1.1.1.0, (as_bor s.1.1.1.1.1.0, s.1.1.1.1.1.1))))))

  abbrev pub searched_tables : ToSearch Own → WithTables Own
  searched_tables s = (s.0, (s.1.0, (s.1.1.0, (s.1.1.1.0, (as_bor s.1.1.1.1.0, (s.1.1.1.1.1.0, s.1.1.1.1.1.1))))))

module _ {Own : Type 0} (s : WithTables Own) where
  abbrev pub control : List ℕ
  control = s.0.now

  abbrev pub samples : List ℤ
  samples = s.1.0.now

  abbrev pub nodes : List ℤ
  nodes = s.1.1.0.now

  abbrev pub links : List ℕ
  links = s.1.1.1.0.now

  abbrev pub work : List ℕ
  work = s.1.1.1.1.0.now

  abbrev pub labels : List ℕ
  labels = s.1.1.1.1.1.0.now

  abbrev pub own : Own
  own = s.1.1.1.1.1.1

  abbrev pub tables_of : Tables
  tables_of = labelled_tables control samples nodes links work labels

module _ {Own Own' : Type 0} (args : WithTables Own) (exits : WithTables Own') where
  -- what a search leaves, which is lent all but search work to read
  abbrev pub after_search : Tables
  after_search = labelled_tables (control args) (samples args) (nodes args) (links args) (work exits) (labels args)

  -- what adding and importing leave, which are lent search work to read
  abbrev pub after_adding : Tables
  after_adding = labelled_tables (control exits) (samples exits) (nodes exits) (links exits) (work args) (labels exits)

-- ---- a call in a memory

-- a call c on a memory is this ask of tables that held `before` and then `after`: "Each call gets the tables as the last one left them",
-- the first so many places of each
pub record Placed (ask : Ask) (before after : Tables) (c : Call) (memory memory' : Tables) : Type 0 where
  pub asks : c.ask ≡ ask
  -- what the types of its arguments say of it
  pub typed : Typed ask
  pub first_places_lem : before ≡ first_places c.lent memory
  pub so_many : lent_of before ≡ c.lent
  pub leaves : memory' ≡ left after memory

-- .. which answered this
pub record CallMade (ask : Ask) (before : Tables) (answer : Answer) (after : Tables) (beside : List (List ℕ))
    (c : Call) (memory : Tables) (said : Reply) (memory' : Tables) : Type 0 where
  pub placed : Placed ask before after c memory memory'
  pub says : said ≡ reply answer beside

-- ---- call by call, with the claim of its contract (`claim`), which the code meets (`Theorem`)

-- what a call asked and was lent, what it answered, and what it left
pub record Exchange : Type 0 where
  pub ask : Ask
  pub before : Tables
  pub answer : Answer
  pub after : Tables
  pub beside : List (List ℕ)

abbrev pub exchange : Ask → Tables → Answer → Tables → List (List ℕ) → Exchange
exchange ask before answer after beside = record { ask = ask; before = before; answer = answer; after = after; beside = beside }

-- a call of a function with these parameters and this result, of which its contract claims `Learnt`
pub record Made {n : ℕ} (ps : List (ParamKind n)) (r : ResultKind n) (Learnt : Out n ps r)
    (seen : (κs : Lfts n) → Dens κs ps → (res_t r κs).Denot → AtExit (ended_of n ps r) κs → Exchange)
    (c : Call) (memory : Tables) (said : Reply) (memory' : Tables) : Type 0 where
  pub κs : Lfts n
  pub args : Dens κs ps
  pub exits : AtExit (ended_of n ps r) κs
  pub result : (res_t r κs).Denot
  pub claim : Learnt κs args result exits
  pub made : let x = seen κs args result exits in CallMade x.ask x.before x.answer x.after x.beside c memory said memory'

abbrev pub Opens : Call → Tables → Reply → Tables → Type 0
Opens = Made open_kinds.ps open_kinds.r open_reads.Learnt (λ κs lent r left_in.
    let args = written_tables lent in
    let exits = written_tables left_in in
    exchange (opening (measures (own args).0 (own args).1.0 (own args).1.1.0)) (tables_of args) (opening_answer.answer_by r)
    (tables_of exits) [])

-- adding is lent search work to read, and leaves it. A label is "zero from callers that give neither"
abbrev pub Adds : Call → Tables → Reply → Tables → Type 0
Adds = Made add_kinds.ps add_kinds.r add_reads.Learnt (λ κs lent r left_in.
    let args = added_tables lent in
    let exits = added_tables left_in in
    exchange (adding (own args).0.now no_label) (tables_of args) (adding_answer.answer_by r)
    (after_adding args exits) [])

-- adding with a code and a serial, which are numbers of its own
abbrev pub AddsLabelled : Call → Tables → Reply → Tables → Type 0
AddsLabelled = Made add_labelled_kinds.ps add_labelled_kinds.r add_labelled_reads.Learnt (λ κs lent r left_in.
    let args = added_tables lent in
    let exits = added_tables left_in in
    exchange (adding (own args).0.now (label (own args).1.0 (own args).1.1.0)) (tables_of args) (adding_answer.answer_by r)
    (after_adding args exits) [])

-- a match is lent all but search work and trail to read
abbrev pub Matches : Call → Tables → Reply → Tables → Type 0
Matches = Made nearest_kinds.ps nearest_kinds.r nearest_reads.Learnt (λ κs lent r left_in.
    let args = searched_tables lent in
    let exits = searched_tables left_in in
    let trail' = (own exits).0.now in
    exchange (matching (own args).1.0.now (own args).0.now) (tables_of args) (matching_answer.answer_by r trail')
    (after_search args exits) (trail' ∷ []))

-- a writing is lent all tables to read, and leaves them
abbrev pub Writes : Call → Tables → Reply → Tables → Type 0
Writes = Made write_kinds.ps write_kinds.r write_reads.Learnt (λ κs args r exits.
    let sheet' = (own exits).0.now in
    exchange (writing (own args).0.now) (tables_of args) (writing_answer.answer_by r sheet') (tables_of args) (sheet' ∷ []))

-- a reading is lent its sheet to read
abbrev pub Reads : Call → Tables → Reply → Tables → Type 0
Reads = Made read_kinds.ps read_kinds.r read_reads.Learnt (λ κs lent r left_in.
    let args = written_tables lent in
    let exits = written_tables left_in in
    exchange (reading (own args).0.now) (tables_of args) (reading_answer.answer_by r) (tables_of exits) [])

-- a listing is lent all but search work, trail and list to read
abbrev pub Lists : Call → Tables → Reply → Tables → Type 0
Lists = Made list_kinds.ps list_kinds.r list_reads.Learnt (λ κs lent r left_in.
    let args = searched_tables lent in
    let exits = searched_tables left_in in
    let trail' = (own exits).0.now in
    let list' = (own exits).1.0.now in
    exchange (listing (own args).1.1.1.0 (own args).1.1.0.now (own args).0.now (own args).1.0.now) (tables_of args)
    (listing_answer.answer_by r trail' list')
    (after_search args exits)
    (trail' ∷ list' ∷ []))

-- an import is lent search work and its file to read, and leaves them
abbrev pub Imports : Call → Tables → Reply → Tables → Type 0
Imports = Made import_kinds.ps import_kinds.r import_reads.Learnt (λ κs lent r left_in.
    let args = added_tables lent in
    let exits = added_tables left_in in
    exchange (importing (own args).0.now) (tables_of args) (importing_answer.answer_by r)
    (after_adding args exits) [])

-- an export is lent all tables to read, and leaves them
abbrev pub Exports : Call → Tables → Reply → Tables → Type 0
Exports = Made export_kinds.ps export_kinds.r export_reads.Learnt (λ κs args r exits.
    let buffer' = (own exits).0.now in
    exchange (exporting (own args).1.0 (own args).1.1.0 (own args).0.now) (tables_of args) (exporting_answer.answer_by r buffer')
    (tables_of args) (buffer' ∷ []))

-- a check is lent all tables to read, and leaves them
abbrev pub Checks : Call → Tables → Reply → Tables → Type 0
Checks = Made check_kinds.ps check_kinds.r check_reads.Learnt (λ κs args r exits.
    exchange checking (tables_of args) (checking_answer.answer_by r) (tables_of args) [])

-- the bench's call is lent all tables to read, and leaves them
abbrev pub TellsLabel : Call → Tables → Reply → Tables → Type 0
TellsLabel = Made label_kinds.ps label_kinds.r label_reads.Learnt (λ κs args r exits.
    exchange (labelling (own args).0) (tables_of args) (labelling_answer.answer_by r) (tables_of args) [])

-- the remote's call is lent what a match is
abbrev pub RemoteMatches : Call → Tables → Reply → Tables → Type 0
RemoteMatches = Made remote_kinds.ps remote_kinds.r remote_reads.Learnt (λ κs lent r left_in.
    let args = searched_tables lent in
    let exits = searched_tables left_in in
    let trail' = (own exits).0.now in
    exchange (remote_matching (own args).1.0.now (own args).0.now) (tables_of args) (remote_answer.answer_by r trail')
    (after_search args exits) (trail' ∷ []))

-- a report is lent all but search work and its list to read
abbrev pub CountsBands : Call → Tables → Reply → Tables → Type 0
CountsBands = Made band_kinds.ps band_kinds.r band_reads.Learnt (λ κs lent r left_in.
    let args = searched_tables lent in
    let exits = searched_tables left_in in
    let list' = (own exits).0.now in
    let edges = (own args).1.1.0.now in
    exchange (banding (own args).1.0.now edges (own args).0.now) (tables_of args)
    (banding_answer.answer_by r (length edges - 1) list')
    (after_search args exits) (list' ∷ []))

-- a match over two libraries (document 02, §11) is lent the factory's tables and trail, then the bench's, and its query. All but search
-- work and trails it is lent to read. "A call added later joins the list of each library whose tables it is lent": in the factory's list
-- the bench's tables are arguments, and what is left in the bench's trail and search work stands beside
abbrev pub PairsAsFactory : Call → Tables → Reply → Tables → Type 0
PairsAsFactory = Made pair_kinds.ps pair_kinds.r pair_reads.Learnt (λ κs lent r left_in.
    let args = searched_tables lent in
    let exits = searched_tables left_in in
    let bench = searched_tables (own args).1 in
    let bench' = searched_tables (own exits).1 in
    let trail' = (own exits).0.now in
    let bench_trail' = (own bench').0.now in
    exchange (pairing of_factory (other_in (tables_of bench) (own bench).0.now) (own bench).1.0.now (own args).0.now) (tables_of args)
    (pairing_answer.answer_by r trail' bench_trail')
    (after_search args exits)
    (trail' ∷ bench_trail' ∷ work bench' ∷ []))

-- .. and in the bench's list the factory's are. The contract's claim is the same
abbrev pub PairsAsBench : Call → Tables → Reply → Tables → Type 0
PairsAsBench = Made pair_kinds.ps pair_kinds.r pair_reads.Learnt (λ κs lent r left_in.
    let args = searched_tables lent in
    let exits = searched_tables left_in in
    let bench = searched_tables (own args).1 in
    let bench' = searched_tables (own exits).1 in
    let trail' = (own exits).0.now in
    let bench_trail' = (own bench').0.now in
    exchange (pairing of_bench (other_in (tables_of args) (own args).0.now) (own bench).1.0.now (own bench).0.now)
    (tables_of bench)
    (pairing_answer.answer_by r trail' bench_trail')
    (after_search bench bench')
    (bench_trail' ∷ trail' ∷ work exits ∷ []))

-- a match with a limit is lent what a match is
abbrev pub MatchesWithin : Call → Tables → Reply → Tables → Type 0
MatchesWithin = Made limit_kinds.ps limit_kinds.r limit_reads.Learnt (λ κs lent r left_in.
    let args = searched_tables lent in
    let exits = searched_tables left_in in
    let trail' = (own exits).0.now in
    exchange (limiting (own args).1.1.0 (own args).1.0.now (own args).0.now) (tables_of args) (limiting_answer.answer_by r trail')
    (after_search args exits) (trail' ∷ []))

-- a clipped sweep is lent all but search work and its list to read
abbrev pub MatchesClipped : Call → Tables → Reply → Tables → Type 0
MatchesClipped = Made clip_kinds.ps clip_kinds.r clip_reads.Learnt (λ κs lent r left_in.
    let args = searched_tables lent in
    let exits = searched_tables left_in in
    let list' = (own exits).0.now in
    exchange (clipping (own args).1.0.now (own args).1.1.0.now (own args).0.now) (tables_of args)
    (clipping_answer.answer_by r list') (after_search args exits) (list' ∷ []))

-- what storing a batch's records leaves in the caller's list. A list of structs is stored by a function that is proved by a walk of its
-- code, and no `Learnt` is generated: the claim is written here, and it is the clause of the contract (`Theorem`: `store_clause`)
abbrev pub StoreLearnt : BatchFound → List AnswerRecord → Bool → List AnswerRecord → Type 0
StoreLearnt found list done list' = store_outcome done list' ≡ store_of found list

-- a batch is a search for a list of so many records, and a storing of what it found: it is lent all but search work, trail and its list of
-- records to read
pub record Batches (c : Call) (memory : Tables) (said : Reply) (memory' : Tables) : Type 0 where
  pub list : List AnswerRecord
  pub list' : List AnswerRecord
  pub searched : Made batch_kinds.ps batch_kinds.r batch_reads.Learnt (λ κs lent r left_in.
      let args = searched_tables lent in
      let exits = searched_tables left_in in
      let trail' = (own exits).0.now in
      exchange (batching (own args).1.1.0 (own args).1.0.now (own args).0.now (nears_of list)) (tables_of args)
      (batching_answer.answer_by r.outcome (nears_of list') trail')
      (after_search args exits)
      (trail' ∷ list_places (nears_of list') ∷ [])) c memory said memory'
  pub so_long : length list ≡ (own (searched_tables searched.args)).1.1.1.0
  pub done : Bool
  pub stored : StoreLearnt searched.result list done list'

-- a call on a memory, what it answered, and the memory after it
pub data Did (c : Call) (memory : Tables) (said : Reply) (memory' : Tables) : Type 0 where
  by_open : Opens c memory said memory' → Did c memory said memory'
  by_add : Adds c memory said memory' → Did c memory said memory'
  by_nearest : Matches c memory said memory' → Did c memory said memory'
  by_write : Writes c memory said memory' → Did c memory said memory'
  by_read : Reads c memory said memory' → Did c memory said memory'
  by_list : Lists c memory said memory' → Did c memory said memory'
  by_import : Imports c memory said memory' → Did c memory said memory'
  by_export : Exports c memory said memory' → Did c memory said memory'
  by_check : Checks c memory said memory' → Did c memory said memory'
  by_batch : Batches c memory said memory' → Did c memory said memory'
  by_add_labelled : AddsLabelled c memory said memory' → Did c memory said memory'
  by_label : TellsLabel c memory said memory' → Did c memory said memory'
  by_remote : RemoteMatches c memory said memory' → Did c memory said memory'
  by_bands : CountsBands c memory said memory' → Did c memory said memory'
  by_pair_factory : PairsAsFactory c memory said memory' → Did c memory said memory'
  by_pair_bench : PairsAsBench c memory said memory' → Did c memory said memory'
  by_limited : MatchesWithin c memory said memory' → Did c memory said memory'
  by_clipped : MatchesClipped c memory said memory' → Did c memory said memory'
