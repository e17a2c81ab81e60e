-- The theorem of the exported calls, which are what firmware links. They meet their contracts; what such a call does by its contract is
-- what is defined, and its caller gets the answer as numbers. So the demands, which hold of calls that follow their definitions
-- (`demands/specs/Theorem`), hold of these.
use Rattle.std.specs.Prelude.{◌≡◌, List, [], get_or, ℕ}
use denote.Triple.Clauses.{AtExit}
use borrow.Fn.Kinds.{Dens, ended_of}
use contract.Lifetimes.{Lfts}
use Rattle.segment.specs.Stored.{samples_of}
use Rattle.dstree.specs.Refusals.{Refusal}
use Rattle.dstree.specs.Pair.{of_factory, by_which, PairMatch}
use Rattle.dstree.specs.Book.{Call, Reply, Answer, answering, refusing, paired, pairing}
use Rattle.tables.specs.Tables.{Tables, measures_of}
use Rattle.tables.specs.View.{traces_in}
use Rattle.calls.specs.Effects.{other_in, outcome_on}
use Rattle.calls.specs.Follows.{Follows}
use Rattle.pairing.specs.Parts.{LentPart, lent_part, no_words, trace_part}
use Rattle.demands.specs.Did.{searched_tables, own, tables_of, Did}
use Rattle.demands.specs.Theorem.{Clause, Theorem}
use Rattle.library_c.specs.contracts.silkendoz_open as open_call
use Rattle.library_c.proofs.silkendoz_open.Statement as open_statement
use Rattle.library_c.proofs.silkendoz_open.Reads as open_reads
use Rattle.library_c.specs.contracts.silkendoz_add as add
use Rattle.library_c.proofs.silkendoz_add.Statement as add_statement
use Rattle.library_c.proofs.silkendoz_add.Reads as add_reads
use Rattle.library_c.specs.contracts.silkendoz_nearest as nearest
use Rattle.library_c.proofs.silkendoz_nearest.Statement as nearest_statement
use Rattle.library_c.proofs.silkendoz_nearest.Reads as nearest_reads
use Rattle.library_c.specs.contracts.silkendoz_write_sheet as write
use Rattle.library_c.proofs.silkendoz_write_sheet.Statement as write_statement
use Rattle.library_c.proofs.silkendoz_write_sheet.Reads as write_reads
use Rattle.library_c.specs.contracts.silkendoz_read_sheet as read
use Rattle.library_c.proofs.silkendoz_read_sheet.Statement as read_statement
use Rattle.library_c.proofs.silkendoz_read_sheet.Reads as read_reads
use Rattle.library_c.specs.contracts.silkendoz_k_nearest as list
use Rattle.library_c.proofs.silkendoz_k_nearest.Statement as list_statement
use Rattle.library_c.proofs.silkendoz_k_nearest.Reads as list_reads
use Rattle.library_c.specs.contracts.silkendoz_import_recording as import_call
use Rattle.library_c.proofs.silkendoz_import_recording.Statement as import_statement
use Rattle.library_c.proofs.silkendoz_import_recording.Reads as import_reads
use Rattle.library_c.specs.contracts.silkendoz_export_recording as export_call
use Rattle.library_c.proofs.silkendoz_export_recording.Statement as export_statement
use Rattle.library_c.proofs.silkendoz_export_recording.Reads as export_reads
use Rattle.library_c.specs.contracts.silkendoz_check_tables as check
use Rattle.library_c.proofs.silkendoz_check_tables.Statement as check_statement
use Rattle.library_c.proofs.silkendoz_check_tables.Reads as check_reads
use Rattle.library_c.specs.contracts.silkendoz_add_labelled as add_labelled
use Rattle.library_c.proofs.silkendoz_add_labelled.Statement as add_labelled_statement
use Rattle.library_c.proofs.silkendoz_add_labelled.Reads as add_labelled_reads
use Rattle.library_c.specs.contracts.silkendoz_label as label_call
use Rattle.library_c.proofs.silkendoz_label.Statement as label_statement
use Rattle.library_c.proofs.silkendoz_label.Reads as label_reads
use Rattle.library_c.specs.contracts.silkendoz_remote_match as remote_call
use Rattle.library_c.proofs.silkendoz_remote_match.Statement as remote_statement
use Rattle.library_c.proofs.silkendoz_remote_match.Reads as remote_reads
use Rattle.library_c.specs.contracts.silkendoz_count_bands as band_call
use Rattle.library_c.proofs.silkendoz_count_bands.Statement as band_statement
use Rattle.library_c.proofs.silkendoz_count_bands.Reads as band_reads
use Rattle.library_c.specs.contracts.silkendoz_match_both as pair_call
use Rattle.library_c.proofs.silkendoz_match_both.Kinds as pair_kinds
use Rattle.library_c.proofs.silkendoz_match_both.Statement as pair_statement
use Rattle.library_c.proofs.silkendoz_match_both.Reads as pair_reads
use Rattle.library_c.specs.contracts.silkendoz_match_within as limit_call
use Rattle.library_c.proofs.silkendoz_match_within.Statement as limit_statement
use Rattle.library_c.proofs.silkendoz_match_within.Reads as limit_reads
use Rattle.library_c.specs.contracts.silkendoz_match_clipped as clip_call
use Rattle.library_c.proofs.silkendoz_match_clipped.Statement as clip_statement
use Rattle.library_c.proofs.silkendoz_match_clipped.Reads as clip_reads
use Rattle.library_c.specs.contracts.silkendoz_match_batch as batch
use Rattle.library_c.proofs.silkendoz_match_batch.Statement as batch_statement
use Rattle.exported_calls.specs.Did.{CReply, c_reply, BatchLearnt, CDid}

-- a part of one of two tables of samples, handed back with an answer of a match over the libraries f and b
pub record PartHanded (f b : Tables) (answer : Answer) (factory bench part : LentPart) : Type 0 where
  -- "the winning trace as part of the lent table it came from": it lies there, n words from trace × n on ..
  pub lies_there : (m : PairMatch) → answer ≡ answering (paired m)
      → part ≡ trace_part (by_which m.which factory bench) (measures_of (by_which m.which f b)).n m.trace
  -- .. which stand for the samples of the stored trace
  pub is_trace_lem : (m : PairMatch) → answer ≡ answering (paired m)
      → samples_of part.contents ≡ get_or (traces_in (by_which m.which f b)) m.trace []
  -- "a refusal hands back an empty part", of the factory's table
  pub is_empty_lem : (why : Refusal) → answer ≡ refusing why → part ≡ no_words factory

-- an exported call that follows its definition: there is a reply that does, and the caller gets this reply as numbers
pub record Told (c : Call) (memory : Tables) (out : List ℕ) (got : CReply) (memory' : Tables) : Type 0 where
  pub said : Reply
  pub follows : Follows c memory said memory'
  pub told : got ≡ c_reply said out

pub record ExportedTheorem : Type 2 where
  pub theorem : Theorem
  pub open_meets : {M : Type 1} → open_statement.statement M
  pub add_meets : {M : Type 1} → add_statement.statement M
  pub nearest_meets : {M : Type 1} → nearest_statement.statement M
  pub write_meets : {M : Type 1} → write_statement.statement M
  pub read_meets : {M : Type 1} → read_statement.statement M
  pub list_meets : {M : Type 1} → list_statement.statement M
  pub import_meets : {M : Type 1} → import_statement.statement M
  pub export_meets : {M : Type 1} → export_statement.statement M
  pub check_meets : {M : Type 1} → check_statement.statement M
  pub batch_meets : {M : Type 1} → batch_statement.statement M
  pub add_labelled_meets : {M : Type 1} → add_labelled_statement.statement M
  pub label_meets : {M : Type 1} → label_statement.statement M
  pub remote_meets : {M : Type 1} → remote_statement.statement M
  pub band_meets : {M : Type 1} → band_statement.statement M
  pub pair_meets : {M : Type 1} → pair_statement.statement M
  pub limit_meets : {M : Type 1} → limit_statement.statement M
  pub clip_meets : {M : Type 1} → clip_statement.statement M
  -- what `CDid` claims of a call is what its contract ensures, and no more is asked
  pub open_clause : Clause open_call.ended (λ M 𝓤 𝓛. open_call.spec 𝓛) open_reads.Learnt
  pub add_clause : Clause add.ended (λ M 𝓤 𝓛. add.spec 𝓛) add_reads.Learnt
  pub nearest_clause : Clause nearest.ended (λ M 𝓤 𝓛. nearest.spec 𝓛) nearest_reads.Learnt
  pub write_clause : Clause write.ended (λ M 𝓤 𝓛. write.spec 𝓛) write_reads.Learnt
  pub read_clause : Clause read.ended (λ M 𝓤 𝓛. read.spec 𝓛) read_reads.Learnt
  pub list_clause : Clause list.ended (λ M 𝓤 𝓛. list.spec 𝓛) list_reads.Learnt
  pub import_clause : Clause import_call.ended (λ M 𝓤 𝓛. import_call.spec 𝓛) import_reads.Learnt
  pub export_clause : Clause export_call.ended (λ M 𝓤 𝓛. export_call.spec 𝓛) export_reads.Learnt
  pub check_clause : Clause check.ended (λ M 𝓤 𝓛. check.spec 𝓛) check_reads.Learnt
  pub batch_clause : Clause batch.ended (λ M 𝓤 𝓛. batch.spec 𝓛) BatchLearnt
  pub add_labelled_clause : Clause add_labelled.ended (λ M 𝓤 𝓛. add_labelled.spec 𝓛) add_labelled_reads.Learnt
  pub label_clause : Clause label_call.ended (λ M 𝓤 𝓛. label_call.spec 𝓛) label_reads.Learnt
  pub remote_clause : Clause remote_call.ended (λ M 𝓤 𝓛. remote_call.spec 𝓛) remote_reads.Learnt
  pub band_clause : Clause band_call.ended (λ M 𝓤 𝓛. band_call.spec 𝓛) band_reads.Learnt
  pub pair_clause : Clause pair_call.ended (λ M 𝓤 𝓛. pair_call.spec 𝓛) pair_reads.Learnt
  pub limit_clause : Clause limit_call.ended (λ M 𝓤 𝓛. limit_call.spec 𝓛) limit_reads.Learnt
  pub clip_clause : Clause clip_call.ended (λ M 𝓤 𝓛. clip_call.spec 𝓛) clip_reads.Learnt
  -- what it leaves is what the definition makes of the call and the memory before, and what it tells is the answer
  pub follows : (c : Call) (memory memory' : Tables) (out : List ℕ) (got : CReply) → CDid c memory out got memory'
      → Told c memory out got memory'
  -- document 02, §11: it "hands back the winning trace as part of the lent table it came from; a refusal hands back an empty part". The
  -- part is what is then laid behind `out`, and the answer is that of the call
  pub part_is : (κs : Lfts 16) (lent : Dens κs pair_kinds.ps) (code : ℕ) (left_in : AtExit (ended_of 16 pair_kinds.ps pair_kinds.r) κs)
      → pair_reads.Learnt κs lent code left_in
      → let args = searched_tables lent in
      let exits = searched_tables left_in in
      let bench = searched_tables (own args).1 in
      let ask = pairing of_factory (other_in (tables_of bench) (own bench).0.now) (own bench).1.0.now (own args).0.now in
      PartHanded (tables_of args) (tables_of bench) (outcome_on ask (tables_of args)).answer (lent_part args.1.0) (lent_part bench.1.0)
      (lent_part (own (searched_tables (own exits).1)).1.1.1.0.now)
  -- each call has its exported function, whatever `out` is lent, so that nothing is claimed of no call
  pub linked : (c : Call) (memory memory' : Tables) (said : Reply) (out : List ℕ) → Did c memory said memory'
      → CDid c memory out (c_reply said out) memory'
