-- `examples::steps::match_of` meets its contract, by that of the match.
use Rattle.examples.proofs.steps.match_of.Goals as goal

pub shape_of-work : goal.shape_of-work
shape_of-work c = c.nearest-answer.auto.work

pub returns : goal.returns
returns c = c.nearest-answer.ensures
