-- The round trips on memories: a sheet that was written holds what the memory stores, whoever made its tree, so that reading it puts the
-- library of these traces; and what was read from a sheet is written as its bytes. A sheet that was written and then damaged is refused.
use Prim.Native.Nat.{ℕ, ◌*◌, ◌≤◌}
use mathlib.Core.Path.{◌≡◌, refl, sym, ap, ap₂, subst, ◌∙◌}
use mathlib.Core.Option.{none}
use mathlib.Core.List.{List, [], ◌∷◌}
use native.Mathlib.Omega.{arith}
use lib.ListN.{length}
use lib.Dec.{T}
use borrow.Author.Tests.{le-ltb}
use Rattle.dstree.specs.Measures.{Trace, Measures, measures, sample_limit, is_library}
use Rattle.dstree.specs.Labels.{Label, are_labels}
use Rattle.dstree.specs.Refusals.{Refusal, first_of}
use Rattle.dstree.specs.Sheet.{block_size, Judged, refused, holds}
use Rattle.dstree.specs.SheetWidths.{blocks_needed, sheet_of, judge_sheet}
use Rattle.dstree.specs.Torn.{CannotHide, RefusedFor}
use Rattle.dstree.specs.Book.{Lent, writing, reading, call, beside_of, done, written, refusing, answering, Reply, Book, book, put_read}
use Rattle.dstree.specs.Book.{reply, over, short_conditions, reading_conditions, reading_entry, entry_of, start}
use Rattle.dstree.proofs.Conditions.{first_none, none_both}
use Rattle.dstree.proofs.RoundTrips.{read_back, written_again}
use Rattle.dstree.proofs.TornSheets.{hides_neither, torn_claims}
use Rattle.tables.specs.Layout.{layout}
use Rattle.tables.specs.Tables.{Tables, lent_of, measures_of}
use Rattle.tables.specs.View.{traces_in, labels_in}
use Rattle.tables.specs.Beginning.{first_places}
use Rattle.tables.specs.Answers.{made_conditions}
use Rattle.calls.specs.Library.{Keeps}
use Rattle.calls.specs.Effects.{writes, reads, effect_of}
use Rattle.calls.specs.Follows.{Typed, Follows}
use Rattle.calls.specs.Demands.{WrittenAndRead, WrittenThenTorn, IsWritten}
use Rattle.calls.proofs.Stored.{Fine, measures_stored, traces_stored, labels_stored, Stores, lent_measures, lent_traces, lent_labels}
use Rattle.calls.proofs.Stored.{lent_labelled, kept_stores}
use Rattle.calls.proofs.Steps.{reply_is, started}
use Rattle.calls.proofs.OneCall.{one_call}
use Rattle.calls.proofs.OffTrail.{answered}

-- ---- a writing

-- the bytes that a writing answers are the sheet of what the memory stores, and that is a library
pub written_is : {memory memory' : Tables} {b : Book} {lent : Lent} {sheet : List ℕ} {said : Reply} {blocks : ℕ} {bytes : List ℕ}
    → Stores memory b
    → Follows (call lent (writing sheet)) memory said memory' → said.answer ≡ answering (written blocks bytes)
    → (bytes ≡ sheet_of b.measures b.traces b.labels)
    × (T (is_library sample_limit b.measures b.traces) × T (are_labels (length b.traces) b.labels))
unfolding effect_of beside_of writes
written_is {memory = memory} {lent = lent} {sheet = sheet} {blocks = blocks} {bytes = bytes} k f e =
    let t = first_places lent memory in
    let known = answered (first_of (writes t sheet).conditions) t (sheet ∷ []) (writes t sheet) (written blocks bytes)
    (sym (ap (λ (r : Reply). r.answer) (reply_is f)) ∙ e) in
    let fine = (none_both (made_conditions t) _ known.0).0 in
    let is : bytes ≡ sheet_of (measures_of t) (traces_in t) (labels_in t) = cc known.1 in (
      is ∙ (λ i. sheet_of (lent_measures k lent fine i) (lent_traces k lent fine i) (lent_labels k lent fine i)),
      (k.library lent fine, lent_labelled k lent fine),
    )

-- where tables are not refused for what they hold, bytes enough are all that it takes
pub is_written : (lent : Lent) (memory : Tables) → Fine lent memory → IsWritten lent memory
unfolding effect_of writes first_of
is_written lent memory fine sheet said memory' f long =
    let t = first_places lent memory in
    let m_same = measures_stored lent memory fine in
    let traces_same = traces_stored lent memory fine in
    let labels_same = labels_stored lent memory fine in
    let blocks_same : blocks_needed (measures_of t) (traces_in t) (labels_in t) ≡ blocks_needed (measures_of memory) (traces_in memory) (labels_in memory) =
    λ i. blocks_needed (m_same i) (traces_same i) (labels_same i) in
    let bytes_same : sheet_of (measures_of t) (traces_in t) (labels_in t) ≡ sheet_of (measures_of memory) (traces_in memory) (labels_in memory) =
    λ i. sheet_of (m_same i) (traces_same i) (labels_same i) in
    let enough : block_size * blocks_needed (measures_of t) (traces_in t) (labels_in t) ≤ length sheet =
    subst (λ (k : ℕ). block_size * k ≤ length sheet) (sym blocks_same) long in
    let nothing : first_of (writes t sheet).conditions ≡ none = first_none (made_conditions t) _ fine ∙ rw (le-ltb _ _ enough) in
    ((one_call _ memory memory' said f).works nothing).0
    ∙ ap₂ (λ (k : ℕ) (bytes : List ℕ). reply (answering (written k bytes)) (over bytes sheet ∷ [])) blocks_same bytes_same

-- ---- a reading

module _ {lent : Lent} {bytes : List ℕ} {memory memory' : Tables} {said : Reply}
    (f : Follows (call lent (reading bytes)) memory said memory') where
  -- one that answers `done` puts what its sheet holds
  reading_puts : said.answer ≡ answering done → (m : Measures) (traces : List Trace) (labels : List Label)
      → judge_sheet bytes ≡ holds m traces labels → Keeps memory' (book m traces labels)
  unfolding start entry_of reading_entry put_read
  reading_puts d m traces labels e = subst (λ (j : Judged). Keeps memory' (put_read (book (measures 0 0 0) [] []) j)) e (started f d)

-- "written to a sheet and read back, is the same library", whoever made the tree that was written
pub read_back_in : {memory : Tables} {b : Book} → Stores memory b → WrittenAndRead b memory
unfolding effect_of reads reading_conditions
read_back_in {memory} {b} k lent sheet said₁ memory₁ f blocks bytes a lent' memory₂ said₃ memory₃ g short =
    let is = written_is k f a in
    let sheet_holds : judge_sheet bytes ≡ holds b.measures b.traces b.labels = ap judge_sheet is.0
    ∙ read_back b.measures b.traces b.labels is.1.0 is.1.1 in
    let fine : first_of (reading_conditions layout (lent_of (first_places lent' memory₂)) (judge_sheet bytes)) ≡ none =
    rw sheet_holds (subst (λ (l : Lent). first_of (short_conditions layout l b.measures) ≡ none) (sym g.has_places) short) in
    let is_done : said₃.answer ≡ answering done = ap (λ (r : Reply). r.answer) ((one_call _ memory₂ memory₃ said₃ g).works fine).0 in
    (is_done, reading_puts g is_done b.measures b.traces b.labels sheet_holds)

-- "an accepted sheet is written again byte for byte"
pub written_again_from : {lent lent' : Lent} {bytes sheet again : List ℕ} {memory₀ memory₁ memory₂ : Tables} {said₁ said₂ : Reply} {blocks : ℕ}
    → Follows (call lent (reading bytes)) memory₀ said₁ memory₁ → said₁.answer ≡ answering done
    → Follows (call lent' (writing sheet)) memory₁ said₂ memory₂ → said₂.answer ≡ answering (written blocks again) → again ≡ bytes
unfolding Typed effect_of reads reading_conditions first_of
written_again_from {bytes = bytes} {again = again} {memory₀ = memory₀} {memory₁ = memory₁} {said₁ = said₁} g is_done f a = by
    (judge_sheet bytes) refl
  where
    by : (j : Judged) → judge_sheet bytes ≡ j → again ≡ bytes
    by (refused why) e =
        let q : said₁.answer ≡ refusing why = (one_call _ memory₀ memory₁ said₁ g).refuses why (rw e) in
        let z : ◌≡◌ {A = ℕ} 0 1 = cc in absurd (omega arith)
    by (holds m traces labels) e =
        (written_is (kept_stores (reading_puts g is_done m traces labels e)) f a).0 ∙ written_again bytes m traces labels g.typed e

-- ---- a damaged sheet

-- document 02, §14: what was written, damaged, is refused with 9 and the block's number, and nothing changes
pub torn_in : {memory : Tables} {b : Book} → Stores memory b → WrittenThenTorn memory
unfolding effect_of reads reading_conditions first_of
torn_in {memory} {b} k lent sheet said₁ memory₁ f blocks bytes a =
    let is = written_is k f a in
    subst (CannotHide Answered) (sym is.0)
    (hides_neither answers (torn_claims.written b.measures b.traces b.labels is.1.0 is.1.1))
  where
    Answered : List ℕ → Refusal → Type 0
    Answered damaged why = (lent' : Lent) (memory₂ : Tables) (said₃ : Reply) (memory₃ : Tables)
        → Follows (call lent' (reading damaged)) memory₂ said₃ memory₃ → (said₃.answer ≡ refusing why) × (memory₃ ≡ memory₂)

    answers : (damaged : List ℕ) (why : Refusal) → RefusedFor damaged why → Answered damaged why
    answers damaged why e lent' memory₂ said₃ memory₃ g =
        let one = one_call _ memory₂ memory₃ said₃ g in
        let q : said₃.answer ≡ refusing why = one.refuses why (rw e) in
        (q, (one.as_before why q).0)
