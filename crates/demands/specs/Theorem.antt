-- The theorem. The code meets the contracts, so that each call ends and stays inside the lent memory; what a call does by its contract is
-- what is defined; and of calls that follow their definitions the demands hold.
use Rattle.std.specs.Prelude.{◌≡◌}
use seplogic.Ra.Ura.{Ura}
use base.Logic.{SProp, emp}
use prog.Memory.{Memory}
use prog.Routine.{Routine}
use types.Logic.{Logic}
use contract.Lifetimes.{Lfts}
use contract.Monad.{Fun, fact}
use denote.Triple.Entry.{Args, Res}
use denote.Triple.Clauses.{Ended, AtExit}
use denote.Triple.Spec.{Spec, exits}
use Rattle.dstree.specs.Book.{Call, Reply}
use Rattle.tables.specs.Tables.{Tables, lent_of}
use Rattle.tables.specs.Beginning.{first_places}
use Rattle.opening.specs.contracts.open
use Rattle.opening.proofs.open.Statement as open_statement
use Rattle.opening.proofs.open.Reads as open_reads
use Rattle.adding.specs.contracts.add
use Rattle.adding.proofs.add.Statement as add_statement
use Rattle.adding.proofs.add.Reads as add_reads
use Rattle.adding.specs.contracts.add_labelled as add_labelled
use Rattle.adding.proofs.add_labelled.Statement as add_labelled_statement
use Rattle.adding.proofs.add_labelled.Reads as add_labelled_reads
use Rattle.matching.specs.contracts.nearest
use Rattle.matching.proofs.nearest.Statement as nearest_statement
use Rattle.matching.proofs.nearest.Reads as nearest_reads
use Rattle.listing.specs.contracts.k_nearest as list
use Rattle.listing.proofs.k_nearest.Statement as list_statement
use Rattle.listing.proofs.k_nearest.Reads as list_reads
use Rattle.sheet_writing.specs.contracts.write_sheet as write
use Rattle.sheet_writing.proofs.write_sheet.Statement as write_statement
use Rattle.sheet_writing.proofs.write_sheet.Reads as write_reads
use Rattle.sheet_reading.specs.contracts.read_sheet as read
use Rattle.sheet_reading.proofs.read_sheet.Statement as read_statement
use Rattle.sheet_reading.proofs.read_sheet.Reads as read_reads
use Rattle.importing.specs.contracts.import_recording as import_call
use Rattle.importing.proofs.import_recording.Statement as import_statement
use Rattle.importing.proofs.import_recording.Reads as import_reads
use Rattle.exporting.specs.contracts.export_recording as export_call
use Rattle.exporting.proofs.export_recording.Statement as export_statement
use Rattle.exporting.proofs.export_recording.Reads as export_reads
use Rattle.checking.specs.contracts.check_tables as check
use Rattle.checking.proofs.check_tables.Statement as check_statement
use Rattle.checking.proofs.check_tables.Reads as check_reads
use Rattle.batching.specs.contracts.match_all as batch
use Rattle.batching.proofs.match_all.Statement as batch_statement
use Rattle.batching.proofs.match_all.Reads as batch_reads
use Rattle.batch_answers.specs.contracts.store
use Rattle.batch_answers.proofs.store.Statement as store_statement
use Rattle.labelling.specs.contracts.label as label_call
use Rattle.labelling.proofs.label.Statement as label_statement
use Rattle.labelling.proofs.label.Reads as label_reads
use Rattle.remote.specs.contracts.remote_match as remote_call
use Rattle.remote.proofs.remote_match.Statement as remote_statement
use Rattle.remote.proofs.remote_match.Reads as remote_reads
use Rattle.banding.specs.contracts.count_bands as band_call
use Rattle.banding.proofs.count_bands.Statement as band_statement
use Rattle.banding.proofs.count_bands.Reads as band_reads
use Rattle.pairing.specs.contracts.match_both as pair_call
use Rattle.pairing.proofs.match_both.Statement as pair_statement
use Rattle.pairing.proofs.match_both.Reads as pair_reads
use Rattle.limiting.specs.contracts.match_within as limit_call
use Rattle.limiting.proofs.match_within.Statement as limit_statement
use Rattle.limiting.proofs.match_within.Reads as limit_reads
use Rattle.clipping.specs.contracts.match_clipped as clip_call
use Rattle.clipping.proofs.match_clipped.Statement as clip_statement
use Rattle.clipping.proofs.match_clipped.Reads as clip_reads
use Rattle.calls.specs.Follows.{Typed, Follows}
use Rattle.calls.specs.Demands.{Demands}
use Rattle.demands.specs.Did.{StoreLearnt, Did}

-- a reply to a call on a memory, and the memory after it
pub record Replied (c : Call) (memory : Tables) : Type 0 where
  pub said : Reply
  pub memory' : Tables
  pub did : Did c memory said memory'

-- the contract of a function, in every model: it asks nothing of a caller, and what it ensures is this claim of the arguments, the result
-- and what is left in the arguments
abbrev pub Clause : (ended : Ended)
    → ((M : Type 1) (𝓤 : Ura M) → (𝓛 : Logic 𝓤) → (Memory → SProp 𝓤) → (Routine → Fun 𝓤) → Spec 𝓤 ended.signature)
    → ((κs : Lfts ended.signature.lifetimes) → Args ended.signature κs → Res ended.signature κs → AtExit ended κs → Type 0)
    → Type 2
Clause ended spec claim = (M : Type 1) (𝓤 : Ura M) (𝓛 : Logic 𝓤) (mem : Memory → SProp 𝓤) (run : Routine → Fun 𝓤)
    (κs : Lfts ended.signature.lifetimes) (args : Args ended.signature κs)
    → spec M 𝓤 𝓛 mem run κs args ≡ record {
      ghost = Unit;
      requires = λ g. emp 𝓤;
      ensures = λ g r. exits 𝓛 ended.signature ended.kept κs args (λ left. fact 𝓤 (claim κs args r left));
    }

pub record Theorem : Type 2 where
  pub open_meets : {M : Type 1} → open_statement.statement M
  pub add_meets : {M : Type 1} → add_statement.statement M
  pub nearest_meets : {M : Type 1} → nearest_statement.statement M
  pub write_meets : {M : Type 1} → write_statement.statement M
  pub read_meets : {M : Type 1} → read_statement.statement M
  pub list_meets : {M : Type 1} → list_statement.statement M
  pub import_meets : {M : Type 1} → import_statement.statement M
  pub export_meets : {M : Type 1} → export_statement.statement M
  pub check_meets : {M : Type 1} → check_statement.statement M
  pub batch_meets : {M : Type 1} → batch_statement.statement M
  pub store_meets : {M : Type 1} → store_statement.statement M
  pub add_labelled_meets : {M : Type 1} → add_labelled_statement.statement M
  pub label_meets : {M : Type 1} → label_statement.statement M
  pub remote_meets : {M : Type 1} → remote_statement.statement M
  pub band_meets : {M : Type 1} → band_statement.statement M
  pub pair_meets : {M : Type 1} → pair_statement.statement M
  pub limit_meets : {M : Type 1} → limit_statement.statement M
  pub clip_meets : {M : Type 1} → clip_statement.statement M
  -- what `Did` claims of a call is what its contract ensures, and no more is asked
  pub open_clause : Clause open.ended (λ M 𝓤 𝓛. open.spec 𝓛) open_reads.Learnt
  pub add_clause : Clause add.ended (λ M 𝓤 𝓛. add.spec 𝓛) add_reads.Learnt
  pub nearest_clause : Clause nearest.ended (λ M 𝓤 𝓛. nearest.spec 𝓛) nearest_reads.Learnt
  pub write_clause : Clause write.ended (λ M 𝓤 𝓛. write.spec 𝓛) write_reads.Learnt
  pub read_clause : Clause read.ended (λ M 𝓤 𝓛. read.spec 𝓛) read_reads.Learnt
  pub list_clause : Clause list.ended (λ M 𝓤 𝓛. list.spec 𝓛) list_reads.Learnt
  pub import_clause : Clause import_call.ended (λ M 𝓤 𝓛. import_call.spec 𝓛) import_reads.Learnt
  pub export_clause : Clause export_call.ended (λ M 𝓤 𝓛. export_call.spec 𝓛) export_reads.Learnt
  pub check_clause : Clause check.ended (λ M 𝓤 𝓛. check.spec 𝓛) check_reads.Learnt
  pub batch_clause : Clause batch.ended (λ M 𝓤 𝓛. batch.spec 𝓛) batch_reads.Learnt
  pub store_clause : Clause store.ended (λ M 𝓤 𝓛. store.spec 𝓛)
      (λ κs args r exits. StoreLearnt args.0 args.1.0.now r exits.1.0.now)
  pub add_labelled_clause : Clause add_labelled.ended (λ M 𝓤 𝓛. add_labelled.spec 𝓛) add_labelled_reads.Learnt
  pub label_clause : Clause label_call.ended (λ M 𝓤 𝓛. label_call.spec 𝓛) label_reads.Learnt
  pub remote_clause : Clause remote_call.ended (λ M 𝓤 𝓛. remote_call.spec 𝓛) remote_reads.Learnt
  pub band_clause : Clause band_call.ended (λ M 𝓤 𝓛. band_call.spec 𝓛) band_reads.Learnt
  pub pair_clause : Clause pair_call.ended (λ M 𝓤 𝓛. pair_call.spec 𝓛) pair_reads.Learnt
  pub limit_clause : Clause limit_call.ended (λ M 𝓤 𝓛. limit_call.spec 𝓛) limit_reads.Learnt
  pub clip_clause : Clause clip_call.ended (λ M 𝓤 𝓛. clip_call.spec 𝓛) clip_reads.Learnt
  -- demand 1: the reply and the memory after are those that the definition makes of the call and the memory before
  pub follows : (c : Call) (memory memory' : Tables) (said : Reply) → Did c memory said memory' → Follows c memory said memory'
  -- every call that its types allow has a reply and a memory after it, on every memory that has the places that it is lent
  pub replies : (c : Call) (memory : Tables) → lent_of (first_places c.lent memory) ≡ c.lent → Typed c.ask → Replied c memory
  pub demands : Demands
