-- `examples::add_all` meets its contract: behind the traces added come those that are left.
use mathlib.Core.Path.{◌≡◌}
use Rattle.std.specs.Prelude.{IsErr}
use Rattle.std.specs.Slice.Iter.{chunks_rest, chunks_size}
use Rattle.tables.specs.Tables.{labelled_tables}
use Rattle.examples.specs.Steps.{parts, added_each}
use Rattle.examples.proofs.add_all.Given as goal

abbrev pub invariant-loop-trace : goal.invariant-loop-trace
invariant-loop-trace l = record {
  size : chunks_size l.trace-iterator ≡ l.n;
  onward : added_each (labelled_tables l.control l.samples l.nodes l.links l.work l.labels) (parts l.n (chunks_rest l.trace-iterator))
      ≡ added_each (labelled_tables l.initial.control l.initial.samples l.initial.nodes l.initial.links l.work l.initial.labels) (parts l.n l.traces);
  failure : IsErr l.fn.out → l.out ≡ l.fn.out;
}
