-- `examples::read_all` meets its contract: behind the sheets read come those that are left.
use Prim.Native.Nat.{ℕ, min}
use mathlib.Core.Path.{refl, sym, ap, ◌∙◌}
use mathlib.Core.List.{List}
use native.Mathlib.Omega.{arith}
use lib.ListN.{length}
use Rattle.std.specs.Iterator.Adapters.{enumerate_source}
use Rattle.std.specs.Slice.Iter.{chunks_rest, chunks_size}
use Rattle.tables.specs.Tables.{Tables, labelled_tables}
use Rattle.examples.specs.Steps.{parts, read_each}
use Rattle.examples.proofs.Parts.{next_part, no_part}
use Rattle.examples.proofs.Stays.{stays_through}
use Rattle.examples.proofs.read_all.Goals as goal

pub loop-i-init : goal.loop-i-init
loop-i-init c =
    let a = c.args in
    let t = labelled_tables a.control.now a.samples.now a.nodes.now a.links.now a.work.now a.labels.now in
    let source = (ap enumerate_source c.into_iter-i-iterator.ensures.into_iter_gives ∙ c.enumerate-i-items.ensures.source) in
    record {
      size = ap chunks_size source ∙ c.chunks.ensures.size;
      onward = ap (λ (m : List ℕ). read_each t (parts 1024 m)) (ap chunks_rest source ∙ c.chunks.ensures.rest);
      failure = λ _. refl;
    }

pub loop-i-preserved : goal.loop-i-preserved
loop-i-preserved c =
    let l = c.loop-i in
    let a = c.args in
    let t = labelled_tables l.control l.samples l.nodes l.links l.work l.labels in
    let before = chunks_rest (enumerate_source l.i-iterator) in
    let after = chunks_rest (enumerate_source c.next.new.self) in
    let steps = c.in-Some.ensures.steps.0 in
    let many = steps.1.1 ∙ ap (λ (k : ℕ). min k (length before)) l.invariant.size in
    let next = next_part 1024 (omega arith) before c.in-Some.sheet.now after steps.1.0 many steps.1.2 in
    record {
      size = steps.0 ∙ l.invariant.size;
      onward = ap (λ (u : Tables). read_each u (parts 1024 after)) c.read_one.ensures.tables
          ∙ (sym (ap (λ (m : List (List ℕ)). read_each t m) next) ∙ l.invariant.onward);
      failure = stays_through l.invariant.failure (stays_through c.print.ensures c.read_one.ensures.failure);
    }

pub returns : goal.returns
returns c =
    let l = c.loop-i in
    let a = c.args in
    let t = labelled_tables l.control l.samples l.nodes l.links l.work l.labels in
    let none = no_part 1024 (omega arith) (chunks_rest (enumerate_source l.i-iterator)) c.in-None.ensures.steps.0.1.0 in
    record { tables = sym (ap (λ (m : List (List ℕ)). read_each t m) none) ∙ l.invariant.onward; failure = l.invariant.failure }
