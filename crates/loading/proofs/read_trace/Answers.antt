-- `loading::read_trace` meets its contract: by what the bytes are, one of the two functions that read a trace of them.
use mathlib.Core.Path.{sym, ap, subst, ◌∙◌}
use mathlib.Core.List.{[]}
use lib.ListN.{length, get_or}
use Rattle.dstree.specs.Measures.{Trace}
use Rattle.loading.specs.declared.Source.{Source}
use Rattle.loading.specs.Loads.{traces_by, HoldsTrace}
use Rattle.loading.proofs.read_trace.Goals as goal

-- what is asked of bytes of some source, and the trace that they hold
module _ (s : goal.After-read_trace-arg-1) where
  abbrev Asked : Source → Type 0
  Asked source = HoldsTrace source (length s.args.trace.now) s.args.bytes.now s.args.number

-- what is asked of bytes of some source, and the trace that they hold
module _ (s : goal.After-read_trace-arg-in-Recording-1) where
  abbrev Asked_2 : Source → Type 0
  Asked_2 source = HoldsTrace source (length s.args.trace.now) s.args.bytes.now s.args.number

-- what is asked of bytes of some source, and the trace that they hold
module _ (s : goal.After-trace-1) where
  abbrev held_3 : Source → Trace
  held_3 source = get_or (traces_by source (length s.args.trace.now) s.args.bytes.now) s.args.number []

-- what is asked of bytes of some source, and the trace that they hold
module _ (s : goal.After-trace-in-Recording-1) where
  abbrev held_4 : Source → Trace
  held_4 source = get_or (traces_by source (length s.args.trace.now) s.args.bytes.now) s.args.number []

pub read_trace-requires : goal.read_trace-requires
read_trace-requires c =
    subst (Asked c) c.in-Sheet.is c.requires

pub read_trace-requires-in-Recording : goal.read_trace-requires-in-Recording
read_trace-requires-in-Recording c =
    subst (Asked_2 c) c.in-Recording.is c.requires

pub returns-in-Sheet : goal.returns-in-Sheet
returns-in-Sheet c =
    c.read_trace.ensures ∙ ap (held_3 c) (sym c.in-Sheet.is)

pub returns-in-Recording : goal.returns-in-Recording
returns-in-Recording c =
    c.read_trace-in-Recording.ensures ∙ ap (held_4 c) (sym c.in-Recording.is)
