-- Document 02, §11: the call "hands back the winning trace as part of the lent table it came from". A part is told by where it lies as well
-- as by what it holds, so that equal words elsewhere are another part.
use Rattle.std.specs.Prelude.{ℕ, suc, ◌+◌, ◌*◌, ◌≡◌, List, [], ℤ, length, leb, if◌then◌else◌, Result, Ok, Err}
use Rattle.dstree.specs.Refusals as word
use Rattle.dstree.specs.Pair.{by_which, PairMatch}
use Rattle.dstree.specs.Book.{Answer, answering, refusing, paired}
use Rattle.tables.specs.Lent.{Signed}
use Rattle.calls.specs.Pairs.{trace_words}
use Rattle.tables.specs.declared.Refusal.{Refusal}
use Rattle.pair_search.specs.BothSearched.{which_by}
use Rattle.pairing.specs.declared.Paired.{Paired}

-- a part of lent memory: where its first word lies, as a number of bytes in a block of memory, and its words
pub record LentPart : Type 0 where
  pub block : ℕ
  pub byte : ℕ
  pub contents : List ℤ

-- the part that a slice is
abbrev pub lent_part : Signed → LentPart
lent_part r = record { block = r.ref_ptr.0; byte = r.ref_ptr.1; contents = r.now }

-- no word, at the beginning of a part
abbrev pub no_words : LentPart → LentPart
no_words l = record { block = l.block; byte = l.byte; contents = [] }

-- a trace in a table of traces of n words. A word has four bytes
unfoldable pub trace_part : LentPart → ℕ → ℕ → LentPart
trace_part table n trace = record {
  block = table.block;
  byte = trace * n * 4 + table.byte;
  contents = trace_words table.contents n trace;
}

-- .. and no word where the table does not hold all of it, which never arises: 2 refuses such a table
unfoldable pub stored_part : LentPart → ℕ → ℕ → LentPart
stored_part table n trace = if leb (suc trace * n) (length table.contents) then trace_part table n trace else no_words table

-- what is handed back of two tables of samples with an answer of code
unfoldable pub part_by : Result Paired Refusal → LentPart → LentPart → ℕ → LentPart
part_by (Ok p) factory bench n = stored_part (by_which (which_by p.library) factory bench) n p.trace
part_by (Err why) factory bench n = no_words factory

-- .. with an answer, of two tables of samples
pub record HandedBack (answer : Answer) (factory bench : LentPart) (n : ℕ) (part : LentPart) : Type 0 where
  -- "the winning trace as part of the lent table it came from"
  pub winner : (m : PairMatch) → answer ≡ answering (paired m) → part ≡ stored_part (by_which m.which factory bench) n m.trace
  -- "a refusal hands back an empty part": the factory's first 0 words
  pub refusal : (why : word.Refusal) → answer ≡ refusing why → part ≡ no_words factory
