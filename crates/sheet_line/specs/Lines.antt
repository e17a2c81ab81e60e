-- The line of an answer, and where it is written.
use Rattle.std.specs.Prelude.{ℕ, List, Result, Ok, Err, length, ltb, if◌then◌else◌}
use Rattle.dstree.specs.Program.{Line, found, refusal_line, printed}
use Rattle.tables.specs.Answers.{word_of}
use Rattle.tables.specs.Beginning.{over}
use Rattle.matching.specs.declared.Found.{Found}
use Rattle.tables.specs.declared.Refusal.{Refusal}

-- "trace, distance, leaves, traces read", or a refusal
unfoldable pub line_by : Result Found Refusal → Line
line_by (Ok seen) = found seen.trace seen.distance seen.leaves seen.traces
line_by (Err why) = refusal_line (word_of why)

-- the longest line that four 64-bit numbers make: 20 digits each, and a space or the line's end behind each
abbrev pub line_room : ℕ
line_room = 84

-- how many bytes of a lent memory were written, and what it then holds
pub record Put : Type 0 where
  pub count : ℕ
  pub bytes : List ℕ

abbrev pub put : ℕ → List ℕ → Put
put count bytes = record { count = count; bytes = bytes }

-- the line of a sheet in the first places of a lent memory, whose other places stay; nothing is written where the longest line has no room
unfoldable pub line_in : List ℕ → List ℕ → Put
line_in sheet out = let line = printed sheet in if ltb (length out) line_room then put 0 out else put (length line) (over line out)
