-- `examples::match_all` meets its contract: behind the queries matched come those that are left.
use Prim.Native.Nat.{ℕ, min}
use mathlib.Core.Path.{refl, sym, ap, ◌∙◌}
use mathlib.Core.List.{List}
use lib.ListN.{length}
use Rattle.std.specs.Slice.Iter.{chunks_rest, chunks_size}
use Rattle.dstree.specs.Measures.{Trace}
use Rattle.tables.specs.Tables.{Tables, labelled_tables}
use Rattle.calls.specs.Outcome.{Outcome}
use Rattle.examples.specs.Steps.{parts, matched_each}
use Rattle.examples.proofs.Parts.{next_part, no_part}
use Rattle.examples.proofs.Stays.{stays_through}
use Rattle.examples.proofs.match_all.Goals as goal

pub loop-query-init : goal.loop-query-init
loop-query-init c =
    let a = c.args in
    let t = labelled_tables a.control.now a.samples.now a.nodes.now a.links.now a.work.now a.labels.now in
    let source = c.into_iter-query-iterator.ensures.into_iter_gives in
    record {
      size = ap chunks_size source ∙ c.chunks-query-items.ensures.size;
      onward = ap (λ (m : Trace). matched_each t (parts a.n m)) (ap chunks_rest source ∙ c.chunks-query-items.ensures.rest);
      failure = λ _. refl;
    }

pub loop-query-preserved : goal.loop-query-preserved
loop-query-preserved c =
    let l = c.loop-query in
    let a = c.args in
    let t = labelled_tables a.control.now a.samples.now a.nodes.now a.links.now l.work a.labels.now in
    let before = chunks_rest l.query-iterator in
    let after = chunks_rest c.next.new.self in
    let steps = c.in-Some.ensures.steps in
    let many = steps.1.1 ∙ ap (λ (k : ℕ). min k (length before)) l.invariant.size in
    let next = next_part a.n c.requires before c.in-Some.query.now after steps.1.0 many steps.1.2 in
    record {
      size = steps.0 ∙ l.invariant.size;
      onward = ap (λ (u : Tables). matched_each u (parts a.n after)) (ap (λ (o : Outcome). o.after) c.match_of.ensures)
          ∙ (sym (ap (λ (m : List (Trace)). matched_each t m) next) ∙ l.invariant.onward);
      failure = stays_through l.invariant.failure (stays_through c.print_query.ensures c.print_match.ensures);
    }

pub returns : goal.returns
returns c =
    let l = c.loop-query in
    let a = c.args in
    let t = labelled_tables a.control.now a.samples.now a.nodes.now a.links.now l.work a.labels.now in
    let none = no_part a.n c.requires (chunks_rest l.query-iterator) c.in-None.ensures.steps.1.0 in
    record { tables = sym (ap (λ (m : List (Trace)). matched_each t m) none) ∙ l.invariant.onward; failure = l.invariant.failure }
