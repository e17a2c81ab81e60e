-- `loading::put_next` meets its contract: what is put are the samples of the trace with this number.
use mathlib.Core.Path.{sym, ap, ◌∙◌, subst}
use Rattle.dstree.specs.Measures.{Trace}
use Rattle.tables.specs.Tables.{tables}
use Rattle.insertion_memory.specs.Memory.{added_to}
use Rattle.adding.specs.Putting.{Takes}
use Rattle.loading.proofs.put_next.Goals as goal

pub read_trace-requires : goal.read_trace-requires
read_trace-requires c = c.requires.holds

pub put-requires : goal.put-requires
put-requires c =
    let g = c.args in
    subst (λ (x : Trace). Takes g.control.now g.samples.now g.nodes.now g.links.now x) (sym c.read_trace.ensures) c.requires.takes

pub returns : goal.returns
returns c = λ work.
    let g = c.args in
    c.put.ensures work ∙ ap (added_to (tables g.control.now g.samples.now g.nodes.now g.links.now work)) c.read_trace.ensures
