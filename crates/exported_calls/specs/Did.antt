-- What a call of an exported function did: its arguments and what it left, of which its contract speaks, and where its slices lie in a
-- memory.
use Rattle.std.specs.Prelude.{ℕ, ◌≡◌, List, [], ◌∷◌}
use denote.Triple.Entry.{Args}
use denote.Triple.Clauses.{AtExit}
use borrow.Fn.Kinds.{ParamKind, ResultKind, Dens, ended_of, Out, res_t}
use contract.Lifetimes.{Lfts}
use Rattle.dstree.specs.Measures.{measures}
use Rattle.dstree.specs.Labels.{label, no_label}
use Rattle.dstree.specs.KNearest.{list_places}
use Rattle.dstree.specs.Pair.{of_factory, of_bench}
use Rattle.dstree.specs.Book.{Ask, opening, adding, matching, writing, reading, listing, importing, exporting, checking, batching, Call}
use Rattle.dstree.specs.Book.{labelling, remote_matching, banding, limiting, clipping, pairing, Reply}
use Rattle.tables.specs.Tables.{Tables}
use Rattle.calls.specs.Effects.{other_in, outcome_on}
use Rattle.batch_answers.specs.AnswerRecords.{nears_of}
use Rattle.demands.specs.Did.{written_tables, added_tables, searched_tables, work, own, tables_of, after_search, after_adding, Placed}
use Rattle.telling.specs.COutcome.{Returned, returned, returned_of, c_outcome, c_outcome_of}
use Rattle.library_c.proofs.silkendoz_open.Kinds as open_kinds
use Rattle.library_c.proofs.silkendoz_open.Reads as open_reads
use Rattle.library_c.proofs.silkendoz_add.Kinds as add_kinds
use Rattle.library_c.proofs.silkendoz_add.Reads as add_reads
use Rattle.library_c.proofs.silkendoz_add_labelled.Kinds as add_labelled_kinds
use Rattle.library_c.proofs.silkendoz_add_labelled.Reads as add_labelled_reads
use Rattle.library_c.proofs.silkendoz_nearest.Kinds as nearest_kinds
use Rattle.library_c.proofs.silkendoz_nearest.Reads as nearest_reads
use Rattle.library_c.proofs.silkendoz_k_nearest.Kinds as list_kinds
use Rattle.library_c.proofs.silkendoz_k_nearest.Reads as list_reads
use Rattle.library_c.proofs.silkendoz_write_sheet.Kinds as write_kinds
use Rattle.library_c.proofs.silkendoz_write_sheet.Reads as write_reads
use Rattle.library_c.proofs.silkendoz_read_sheet.Kinds as read_kinds
use Rattle.library_c.proofs.silkendoz_read_sheet.Reads as read_reads
use Rattle.library_c.proofs.silkendoz_import_recording.Kinds as import_kinds
use Rattle.library_c.proofs.silkendoz_import_recording.Reads as import_reads
use Rattle.library_c.proofs.silkendoz_export_recording.Kinds as export_kinds
use Rattle.library_c.proofs.silkendoz_export_recording.Reads as export_reads
use Rattle.library_c.proofs.silkendoz_check_tables.Kinds as check_kinds
use Rattle.library_c.proofs.silkendoz_check_tables.Reads as check_reads
use Rattle.library_c.proofs.silkendoz_label.Kinds as label_kinds
use Rattle.library_c.proofs.silkendoz_label.Reads as label_reads
use Rattle.library_c.proofs.silkendoz_remote_match.Kinds as remote_kinds
use Rattle.library_c.proofs.silkendoz_remote_match.Reads as remote_reads
use Rattle.library_c.proofs.silkendoz_count_bands.Kinds as band_kinds
use Rattle.library_c.proofs.silkendoz_count_bands.Reads as band_reads
use Rattle.library_c.proofs.silkendoz_match_both.Kinds as pair_kinds
use Rattle.library_c.proofs.silkendoz_match_both.Reads as pair_reads
use Rattle.library_c.proofs.silkendoz_match_within.Kinds as limit_kinds
use Rattle.library_c.proofs.silkendoz_match_within.Reads as limit_reads
use Rattle.library_c.proofs.silkendoz_match_clipped.Kinds as clip_kinds
use Rattle.library_c.proofs.silkendoz_match_clipped.Reads as clip_reads
use Rattle.library_c.specs.contracts.silkendoz_match_batch as batch

-- what a caller in another language gets: the code, and the slice `out` as it was left; and what then stands in what was lent beside the
-- tables
pub record CReply : Type 0 where
  pub told : Returned
  pub beside : List (List ℕ)

-- .. of a reply: its code, and its values over the first places of `out`
abbrev pub c_reply : Reply → List ℕ → CReply
c_reply said out = record { told = returned_of said.answer out; beside = said.beside }

-- what a call asked and was lent, `out` among it, and what it left
pub record CExchange : Type 0 where
  pub ask : Ask
  pub before : Tables
  pub out : List ℕ
  pub told : Returned
  pub after : Tables
  pub beside : List (List ℕ)

abbrev pub c_exchange : Ask → Tables → List ℕ → Returned → Tables → List (List ℕ) → CExchange
c_exchange ask before out told after beside =
    record { ask = ask; before = before; out = out; told = told; after = after; beside = beside }

-- a call c on a memory, with this `out`, is such an exchange
pub record CallMade (x : CExchange) (c : Call) (memory : Tables) (out : List ℕ) (said : CReply) (memory' : Tables) : Type 0 where
  pub placed : Placed x.ask x.before x.after c memory memory'
  pub lends_out : out ≡ x.out
  pub says : said ≡ record { told = x.told; beside = x.beside }

-- a call of an exported function with these parameters and this result, of which its contract claims `Learnt`
pub record Made {n : ℕ} (ps : List (ParamKind n)) (r : ResultKind n) (Learnt : Out n ps r)
    (seen : (κs : Lfts n) → Dens κs ps → (res_t r κs).Denot → AtExit (ended_of n ps r) κs → CExchange)
    (c : Call) (memory : Tables) (out : List ℕ) (said : CReply) (memory' : Tables) : Type 0 where
  pub κs : Lfts n
  pub args : Dens κs ps
  pub exits : AtExit (ended_of n ps r) κs
  pub result : (res_t r κs).Denot
  pub claim : Learnt κs args result exits
  pub made : CallMade (seen κs args result exits) c memory out said memory'

-- ---- call by call: the parameters of the call of the same name, and `out` last

abbrev pub Opens : Call → Tables → List ℕ → CReply → Tables → Type 0
Opens = Made open_kinds.ps open_kinds.r open_reads.Learnt (λ κs lent code left_in.
    let args = written_tables lent in
    let exits = written_tables left_in in
    let ask = opening (measures (own args).0 (own args).1.0 (own args).1.1.0) in
    c_exchange ask (tables_of args) (own args).1.1.1.0.now (returned code (own exits).1.1.1.0.now) (tables_of exits) [])

-- search work is lent to read
abbrev pub Adds : Call → Tables → List ℕ → CReply → Tables → Type 0
Adds = Made add_kinds.ps add_kinds.r add_reads.Learnt (λ κs lent code left_in.
    let args = added_tables lent in
    let exits = added_tables left_in in
    c_exchange (adding (own args).0.now no_label) (tables_of args) (own args).1.0.now (returned code (own exits).1.0.now)
    (after_adding args exits) [])

abbrev pub AddsLabelled : Call → Tables → List ℕ → CReply → Tables → Type 0
AddsLabelled = Made add_labelled_kinds.ps add_labelled_kinds.r add_labelled_reads.Learnt (λ κs lent code left_in.
    let args = added_tables lent in
    let exits = added_tables left_in in
    let ask = adding (own args).0.now (label (own args).1.0 (own args).1.1.0) in
    c_exchange ask (tables_of args) (own args).1.1.1.0.now (returned code (own exits).1.1.1.0.now) (after_adding args exits) [])

-- all tables but search work are lent to read
abbrev pub Matches : Call → Tables → List ℕ → CReply → Tables → Type 0
Matches = Made nearest_kinds.ps nearest_kinds.r nearest_reads.Learnt (λ κs lent code left_in.
    let args = searched_tables lent in
    let exits = searched_tables left_in in
    c_exchange (matching (own args).1.0.now (own args).0.now) (tables_of args) (own args).1.1.0.now
    (returned code (own exits).1.1.0.now) (after_search args exits)
    ((own exits).0.now ∷ []))

-- all tables are lent to read
abbrev pub Writes : Call → Tables → List ℕ → CReply → Tables → Type 0
Writes = Made write_kinds.ps write_kinds.r write_reads.Learnt (λ κs args code exits.
    c_exchange (writing (own args).0.now) (tables_of args) (own args).1.0.now (returned code (own exits).1.0.now) (tables_of args)
    ((own exits).0.now ∷ []))

abbrev pub Reads : Call → Tables → List ℕ → CReply → Tables → Type 0
Reads = Made read_kinds.ps read_kinds.r read_reads.Learnt (λ κs lent code left_in.
    let args = written_tables lent in
    let exits = written_tables left_in in
    c_exchange (reading (own args).0.now) (tables_of args) (own args).1.0.now (returned code (own exits).1.0.now) (tables_of exits)
    [])

-- all tables but search work are lent to read
abbrev pub Lists : Call → Tables → List ℕ → CReply → Tables → Type 0
Lists = Made list_kinds.ps list_kinds.r list_reads.Learnt (λ κs lent code left_in.
    let args = searched_tables lent in
    let exits = searched_tables left_in in
    c_exchange (listing (own args).1.1.1.0 (own args).1.1.0.now (own args).0.now (own args).1.0.now) (tables_of args)
    (own args).1.1.1.1.0.now (returned code (own exits).1.1.1.1.0.now)
    (after_search args exits) ((own exits).0.now ∷ (own exits).1.0.now ∷ []))

-- search work is lent to read
abbrev pub Imports : Call → Tables → List ℕ → CReply → Tables → Type 0
Imports = Made import_kinds.ps import_kinds.r import_reads.Learnt (λ κs lent code left_in.
    let args = added_tables lent in
    let exits = added_tables left_in in
    c_exchange (importing (own args).0.now) (tables_of args) (own args).1.0.now (returned code (own exits).1.0.now)
    (after_adding args exits) [])

-- all tables are lent to read
abbrev pub Exports : Call → Tables → List ℕ → CReply → Tables → Type 0
Exports = Made export_kinds.ps export_kinds.r export_reads.Learnt (λ κs args code exits.
    c_exchange (exporting (own args).1.0 (own args).1.1.0 (own args).0.now) (tables_of args) (own args).1.1.1.0.now
    (returned code (own exits).1.1.1.0.now) (tables_of args) ((own exits).0.now ∷ []))

-- all tables are lent to read
abbrev pub Checks : Call → Tables → List ℕ → CReply → Tables → Type 0
Checks = Made check_kinds.ps check_kinds.r check_reads.Learnt (λ κs args code exits.
    c_exchange checking (tables_of args) (own args).0.now (returned code (own exits).0.now) (tables_of args) [])

-- all tables are lent to read
abbrev pub TellsLabel : Call → Tables → List ℕ → CReply → Tables → Type 0
TellsLabel = Made label_kinds.ps label_kinds.r label_reads.Learnt (λ κs args code exits.
    c_exchange (labelling (own args).0) (tables_of args) (own args).1.0.now (returned code (own exits).1.0.now) (tables_of args) [])

-- all tables but search work are lent to read
abbrev pub RemoteMatches : Call → Tables → List ℕ → CReply → Tables → Type 0
RemoteMatches = Made remote_kinds.ps remote_kinds.r remote_reads.Learnt (λ κs lent code left_in.
    let args = searched_tables lent in
    let exits = searched_tables left_in in
    c_exchange (remote_matching (own args).1.0.now (own args).0.now) (tables_of args) (own args).1.1.0.now
    (returned code (own exits).1.1.0.now) (after_search args exits)
    ((own exits).0.now ∷ []))

-- all tables but search work are lent to read
abbrev pub CountsBands : Call → Tables → List ℕ → CReply → Tables → Type 0
CountsBands = Made band_kinds.ps band_kinds.r band_reads.Learnt (λ κs lent code left_in.
    let args = searched_tables lent in
    let exits = searched_tables left_in in
    c_exchange (banding (own args).1.0.now (own args).1.1.0.now (own args).0.now) (tables_of args) (own args).1.1.1.0.now
    (returned code (own exits).1.1.1.0.now) (after_search args exits)
    ((own exits).0.now ∷ []))

-- all tables of both libraries but their search work are lent to read. Behind `out` stands the place for the part that is handed back
-- (`Theorem`: `part_is`). The call is one of the factory's list ..
abbrev pub PairsAsFactory : Call → Tables → List ℕ → CReply → Tables → Type 0
PairsAsFactory = Made pair_kinds.ps pair_kinds.r pair_reads.Learnt (λ κs lent code left_in.
    let args = searched_tables lent in
    let exits = searched_tables left_in in
    let bench = searched_tables (own args).1 in
    let bench' = searched_tables (own exits).1 in
    let ask = pairing of_factory (other_in (tables_of bench) (own bench).0.now) (own bench).1.0.now (own args).0.now in
    c_exchange ask (tables_of args) (own bench).1.1.0.now (returned code (own bench').1.1.0.now) (after_search args exits)
    ((own exits).0.now ∷ (own bench').0.now ∷ work bench' ∷ []))

-- .. and one of the bench's
abbrev pub PairsAsBench : Call → Tables → List ℕ → CReply → Tables → Type 0
PairsAsBench = Made pair_kinds.ps pair_kinds.r pair_reads.Learnt (λ κs lent code left_in.
    let args = searched_tables lent in
    let exits = searched_tables left_in in
    let bench = searched_tables (own args).1 in
    let bench' = searched_tables (own exits).1 in
    let ask = pairing of_bench (other_in (tables_of args) (own args).0.now) (own bench).1.0.now (own bench).0.now in
    c_exchange ask (tables_of bench) (own bench).1.1.0.now (returned code (own bench').1.1.0.now) (after_search bench bench')
    ((own bench').0.now ∷ (own exits).0.now ∷ work exits ∷ []))

-- all tables but search work are lent to read
abbrev pub MatchesWithin : Call → Tables → List ℕ → CReply → Tables → Type 0
MatchesWithin = Made limit_kinds.ps limit_kinds.r limit_reads.Learnt (λ κs lent code left_in.
    let args = searched_tables lent in
    let exits = searched_tables left_in in
    c_exchange (limiting (own args).1.1.0 (own args).1.0.now (own args).0.now) (tables_of args) (own args).1.1.1.0.now
    (returned code (own exits).1.1.1.0.now) (after_search args exits)
    ((own exits).0.now ∷ []))

-- all tables but search work are lent to read
abbrev pub MatchesClipped : Call → Tables → List ℕ → CReply → Tables → Type 0
MatchesClipped = Made clip_kinds.ps clip_kinds.r clip_reads.Learnt (λ κs lent code left_in.
    let args = searched_tables lent in
    let exits = searched_tables left_in in
    c_exchange (clipping (own args).1.0.now (own args).1.1.0.now (own args).0.now) (tables_of args) (own args).1.1.1.0.now
    (returned code (own exits).1.1.1.0.now) (after_search args exits)
    ((own exits).0.now ∷ []))

-- a batch is lent a list of structs, so that no `Learnt` is generated: its claim is written here, and it is the clause of the contract
-- (`Theorem`: `batch_clause`)
abbrev pub batch_seen : (κs : Lfts 10) → Args batch.signature κs → ℕ → AtExit batch.ended κs → CExchange
batch_seen κs lent code left_in =
    let args = searched_tables lent in
    let exits = searched_tables left_in in
    let ask = batching (own args).1.1.0 (own args).1.0.now (own args).0.now (nears_of (own args).1.1.1.0.now) in
    c_exchange ask (tables_of args) (own args).1.1.1.1.0.now (returned code (own exits).1.1.1.1.0.now)
    (after_search args exits)
    ((own exits).0.now ∷ list_places (nears_of (own exits).1.1.1.0.now) ∷ [])

abbrev pub BatchLearnt : (κs : Lfts 10) → Args batch.signature κs → ℕ → AtExit batch.ended κs → Type 0
BatchLearnt κs args code exits =
    let x = batch_seen κs args code exits in
    c_outcome x.told.code x.told.out x.after x.beside ≡ c_outcome_of (outcome_on x.ask x.before) x.out

pub record Batches (c : Call) (memory : Tables) (out : List ℕ) (said : CReply) (memory' : Tables) : Type 0 where
  pub κs : Lfts 10
  pub args : Args batch.signature κs
  pub exits : AtExit batch.ended κs
  pub result : ℕ
  pub claim : BatchLearnt κs args result exits
  pub made : CallMade (batch_seen κs args result exits) c memory out said memory'

-- a call of an exported function on a memory, with this `out`, what its caller got, and the memory after it
pub data CDid (c : Call) (memory : Tables) (out : List ℕ) (said : CReply) (memory' : Tables) : Type 0 where
  by_open : Opens c memory out said memory' → CDid c memory out said memory'
  by_add : Adds c memory out said memory' → CDid c memory out said memory'
  by_nearest : Matches c memory out said memory' → CDid c memory out said memory'
  by_write : Writes c memory out said memory' → CDid c memory out said memory'
  by_read : Reads c memory out said memory' → CDid c memory out said memory'
  by_list : Lists c memory out said memory' → CDid c memory out said memory'
  by_import : Imports c memory out said memory' → CDid c memory out said memory'
  by_export : Exports c memory out said memory' → CDid c memory out said memory'
  by_check : Checks c memory out said memory' → CDid c memory out said memory'
  by_batch : Batches c memory out said memory' → CDid c memory out said memory'
  by_add_labelled : AddsLabelled c memory out said memory' → CDid c memory out said memory'
  by_label : TellsLabel c memory out said memory' → CDid c memory out said memory'
  by_remote : RemoteMatches c memory out said memory' → CDid c memory out said memory'
  by_bands : CountsBands c memory out said memory' → CDid c memory out said memory'
  by_pair_factory : PairsAsFactory c memory out said memory' → CDid c memory out said memory'
  by_pair_bench : PairsAsBench c memory out said memory' → CDid c memory out said memory'
  by_limited : MatchesWithin c memory out said memory' → CDid c memory out said memory'
  by_clipped : MatchesClipped c memory out said memory' → CDid c memory out said memory'
