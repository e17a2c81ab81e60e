-- `examples::read_all` meets its contract: behind the sheets read come those that are left.
use mathlib.Core.Path.{◌≡◌}
use Rattle.std.specs.Prelude.{IsErr}
use Rattle.std.specs.Iterator.Adapters.{enumerate_source}
use Rattle.std.specs.Slice.Iter.{chunks_rest, chunks_size}
use Rattle.tables.specs.Tables.{labelled_tables}
use Rattle.examples.specs.Steps.{parts, read_each}
use Rattle.examples.proofs.read_all.Given as goal

abbrev pub invariant-loop-i : goal.invariant-loop-i
invariant-loop-i l = record {
  size : chunks_size (enumerate_source l.i-iterator) ≡ 1024;
  onward : read_each (labelled_tables l.control l.samples l.nodes l.links l.work l.labels) (parts 1024 (chunks_rest (enumerate_source l.i-iterator)))
      ≡ read_each (labelled_tables l.initial.control l.initial.samples l.initial.nodes l.initial.links l.initial.work l.initial.labels)
      (parts 1024 l.sheets);
  failure : IsErr l.fn.out → l.out ≡ l.fn.out;
}
