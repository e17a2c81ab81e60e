-- What `import_recording` answers, in document 02's terms.
use Rattle.std.specs.Prelude.{ℕ, length, Result, Ok, Err}
use Rattle.std.proofs.Math.Option.{Option, none, some}
use Rattle.dstree.specs.Measures.{Measures}
use Rattle.dstree.specs.Refusals as word
use Rattle.dstree.specs.Refusals.{first_of}
use Rattle.dstree.specs.Recording.{Recording, file_traces}
use Rattle.dstree.specs.Book.{Answer, answering, refusing, imported, import_conditions}
use Rattle.tables.specs.Answers.{word_of}
use Rattle.tables.specs.declared.Refusal as declared

-- "the answer is how many"
unfoldable pub answer_by : Result ℕ declared.Refusal → Answer
answer_by (Ok count) = answering (imported count)
answer_by (Err why) = refusing (word_of why)

-- by the first condition that holds: a refusal, or so many traces
unfoldable pub count_unless : Option word.Refusal → ℕ → Answer
count_unless none count = answering (imported count)
count_unless (some why) count = refusing why

-- what is answered of a file, for a library with these measures and so many traces: 12, 5
abbrev pub file_answer : Measures → ℕ → Option Recording → Answer
file_answer m count file = count_unless (first_of (import_conditions m count file)) (length (file_traces file))
