-- `loading::load` meets its contract. The loop's invariant: the tables are those that the first traces, added in order, leave.
use mathlib.Core.Path.{◌≡◌, refl, sym, ap, ◌∙◌}
use mathlib.Core.List.{[], foldl}
use Prim.Native.Nat.{ℕ, ◌<◌}
use native.Mathlib.Numerals.{add-one}
use native.Mathlib.Omega.{arith}
use lib.ListN.{length, get_or, take}
use Rattle.tables.specs.Tables.{Tables, tables}
use Rattle.insertion_memory.specs.Memory.{added_to}
use Rattle.insertion_memory.proofs.Keeps.{one_more}
use Rattle.loading.specs.Loads.{traces_by}
use Rattle.loading.proofs.Takes.{takes_next}
use Rattle.loading.proofs.load.Goals as goal

pub loop-number-init : goal.loop-number-init
loop-number-init c = ((λ work. refl), refl, refl, refl, refl)

pub put_one-requires : goal.put_one-requires
put_one-requires c =
    let g = c.args in
    let l = c.loop-number in
    let p = c.requires in
    let inside : l.number < length (traces_by g.source g.n g.bytes.now) = omega (arith, c.loop-number-test.true, p.counted) in
    record {
      few = p.few;
      holds = p.holds l.number c.loop-number-test.true;
      takes = takes_next (tables g.control.now g.samples.now g.nodes.now g.links.now []) (traces_by g.source g.n g.bytes.now) p.takes l.number inside
          l.control l.samples l.nodes l.links (l.invariant.0 []);
    }

pub loop-number-preserved : goal.loop-number-preserved
loop-number-preserved c =
    let g = c.args in
    let l = c.loop-number in
    let traces = traces_by g.source g.n g.bytes.now in
    let inside : l.number < length traces = omega (arith, c.loop-number-test.true, c.requires.counted) in (
      (λ work. rw (add-one l.number) (c.put_one.ensures work ∙ ap (λ (t : Tables). added_to t (get_or traces l.number [])) (l.invariant.0 work)
          ∙ sym (one_more (tables g.control.now g.samples.now g.nodes.now g.links.now work) traces l.number inside))),
      c.put_one.auto.control ∙ l.invariant.1,
      c.put_one.auto.samples ∙ l.invariant.2,
      c.put_one.auto.nodes ∙ l.invariant.3,
      c.put_one.auto.links ∙ l.invariant.4,
    )

pub returns : goal.returns
returns c = λ work.
    let g = c.args in
    let all : c.loop-number.number ≡ g.count = omega arith in
    c.loop-number.invariant.0 work
    ∙ ap (λ (i : ℕ). foldl added_to (tables g.control.now g.samples.now g.nodes.now g.links.now work) (take i (traces_by g.source g.n g.bytes.now))) all
