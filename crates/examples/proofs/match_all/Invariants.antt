-- `examples::match_all` meets its contract: behind the queries matched come those that are left.
use mathlib.Core.Path.{◌≡◌}
use Rattle.std.specs.Prelude.{IsErr}
use Rattle.std.specs.Slice.Iter.{chunks_rest, chunks_size}
use Rattle.tables.specs.Tables.{labelled_tables}
use Rattle.examples.specs.Steps.{parts, matched_each}
use Rattle.examples.proofs.match_all.Given as goal

abbrev pub invariant-loop-query : goal.invariant-loop-query
invariant-loop-query l = record {
  size : chunks_size l.query-iterator ≡ l.n;
  onward : matched_each (labelled_tables l.control l.samples l.nodes l.links l.work l.labels) (parts l.n (chunks_rest l.query-iterator))
      ≡ matched_each (labelled_tables l.control l.samples l.nodes l.links l.initial.work l.labels) (parts l.n l.queries);
  failure : IsErr l.fn.out → l.out ≡ l.fn.out;
}
