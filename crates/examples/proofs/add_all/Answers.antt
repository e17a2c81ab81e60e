-- `examples::add_all` meets its contract: behind the traces added come those that are left.
use Prim.Native.Nat.{ℕ, min}
use mathlib.Core.Path.{refl, sym, ap, ◌∙◌}
use mathlib.Core.List.{List}
use lib.ListN.{length}
use Rattle.std.specs.Slice.Iter.{chunks_rest, chunks_size}
use Rattle.dstree.specs.Measures.{Trace}
use Rattle.tables.specs.Tables.{Tables, labelled_tables}
use Rattle.calls.specs.Outcome.{Outcome}
use Rattle.examples.specs.Steps.{parts, added_each}
use Rattle.examples.proofs.Parts.{next_part, no_part}
use Rattle.examples.proofs.Stays.{stays_through}
use Rattle.examples.proofs.add_all.Goals as goal

pub loop-trace-init : goal.loop-trace-init
loop-trace-init c =
    let a = c.args in
    let t = labelled_tables a.control.now a.samples.now a.nodes.now a.links.now a.work.now a.labels.now in
    let source = c.into_iter-trace-iterator.ensures.into_iter_gives in
    record {
      size = ap chunks_size source ∙ c.chunks-trace-items.ensures.size;
      onward = ap (λ (m : Trace). added_each t (parts a.n m)) (ap chunks_rest source ∙ c.chunks-trace-items.ensures.rest);
      failure = λ _. refl;
    }

pub loop-trace-preserved : goal.loop-trace-preserved
loop-trace-preserved c =
    let l = c.loop-trace in
    let a = c.args in
    let t = labelled_tables l.control l.samples l.nodes l.links a.work.now l.labels in
    let before = chunks_rest l.trace-iterator in
    let after = chunks_rest c.next.new.self in
    let steps = c.in-Some.ensures.steps in
    let many = steps.1.1 ∙ ap (λ (k : ℕ). min k (length before)) l.invariant.size in
    let next = next_part a.n c.requires before c.in-Some.trace.now after steps.1.0 many steps.1.2 in
    record {
      size = steps.0 ∙ l.invariant.size;
      onward = ap (λ (u : Tables). added_each u (parts a.n after)) (ap (λ (o : Outcome). o.after) c.add_to.ensures.0)
          ∙ (sym (ap (λ (m : List (Trace)). added_each t m) next) ∙ l.invariant.onward);
      failure = stays_through l.invariant.failure c.print_adding.ensures;
    }

pub returns : goal.returns
returns c =
    let l = c.loop-trace in
    let a = c.args in
    let t = labelled_tables l.control l.samples l.nodes l.links a.work.now l.labels in
    let none = no_part a.n c.requires (chunks_rest l.trace-iterator) c.in-None.ensures.steps.1.0 in
    record { tables = sym (ap (λ (m : List (Trace)). added_each t m) none) ∙ l.invariant.onward; failure = l.invariant.failure }
