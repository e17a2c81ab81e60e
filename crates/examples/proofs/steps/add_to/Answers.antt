-- `examples::steps::add_to` meets its contract, by those of the two calls.
use Rattle.examples.proofs.steps.add_to.Goals as goal

pub shape_of-control : goal.shape_of-control
shape_of-control c = c.add-answer.auto.control

pub shape_of-samples : goal.shape_of-samples
shape_of-samples c = c.add-answer.auto.samples

pub shape_of-nodes : goal.shape_of-nodes
shape_of-nodes c = c.add-answer.auto.nodes

pub shape_of-links : goal.shape_of-links
shape_of-links c = c.add-answer.auto.links

pub shape_of-labels : goal.shape_of-labels
shape_of-labels c = c.add-answer.auto.labels

pub returns : goal.returns
returns c = (c.add-answer.ensures, c.field-count.ensures)
