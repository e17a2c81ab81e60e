-- What `label` answers, in document 02's terms.
use Rattle.std.specs.Prelude.{Result, Ok, Err}
use Rattle.dstree.specs.Labels as d
use Rattle.dstree.specs.Book.{Answer, answering, refusing, labelled}
use Rattle.tables.specs.Answers.{word_of}
use Rattle.tables.specs.declared.Refusal.{Refusal}
use Rattle.labelling.specs.declared.Labelled.{Labelled}

-- "The bench has a call that answers both for a trace number"
unfoldable pub answer_by : Result Labelled Refusal → Answer
answer_by (Ok l) = answering (labelled (d.label l.code l.serial))
answer_by (Err why) = refusing (word_of why)
