-- `silkendoz_match_batch` meets its contract: the batch's own equation, the records as they are stored, and what is returned of its answer.
use Rattle.batch_answers.proofs.Whole.{whole}
use Rattle.batch_answers.specs.AnswerRecords.{nears_of}
use Rattle.library_c.proofs.Answers.{exported_call}
use Rattle.library_c.proofs.silkendoz_match_batch.Goals as goal

pub returns : goal.returns
returns c =
    exported_call _ _ _ _ _ _ _ (c.tell_number.ensures.batched (nears_of c.store.new.answers) c.match_all-found.new.trail)
    (whole _ _ c.args.many c.args.queries.now c.args.trail.now c.match_all-found.new.trail c.args.answers.now c.store.new.answers
    c.match_all-found.result c.store.result c.match_all-found.ensures c.store.ensures)
