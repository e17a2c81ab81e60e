-- `numbers_fit::children::children_once` meets its contract: with a child that is met again the rule fails, and else the marks tell how
-- often each node is a child.
use mathlib.Core.Path.{◌∙◌}
use Rattle.numbers_fit.proofs.Once.{children_again, children_marked, no_children}
use Rattle.numbers_fit.proofs.children.children_once.Goals as goal

pub returns-then-not-mark_all : goal.returns-then-not-mark_all
returns-then-not-mark_all c =
    children_again c.args.nodes.now c.args.m c.requires (c.mark_all.ensures.old (c.if-not-mark_all.true))

pub returns-then-m-eq0 : goal.returns-then-m-eq0
returns-then-m-eq0 c = no_children c.args.nodes.now c.args.m c.if-m-eq0.true

pub returns : goal.returns
returns c =
    c.all_marked.ensures ∙ children_marked c.args.nodes.now c.args.m c.requires (c.mark_all.ensures.new (c.if-not-mark_all.false))
