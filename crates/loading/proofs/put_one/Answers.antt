-- `loading::put_one` meets its contract: a trace's samples have room in 256 places.
use mathlib.Core.Path.{◌≡◌, sym, ap, ◌∙◌, subst}
use mathlib.Core.List.{[]}
use Prim.Native.Nat.{ℕ}
use lib.IntN.{pos}
use lib.ListN.{length, get_or, take, replicate}
use lib.Seq.{length-take-le}
use Rattle.tables.specs.Tables.{tables}
use Rattle.insertion_memory.specs.Memory.{added_to}
use Rattle.loading.specs.Loads.{traces_by, Next}
use Rattle.loading.proofs.put_one.Goals as goal

module _ (a : goal.After-put_next-arg-4-1) where
  abbrev start : goal.After-put_next-arg-4-1
  start = a

module _ (a : goal.After-trace-1) where
  abbrev start_2 : goal.After-trace-1
  start_2 = a

  length_is_2 : start_2.args.n ≡ length (take start_2.args.n (replicate 256 (pos 0)))
  length_is_2 = sym (length-take-le start_2.args.n (replicate 256 (pos 0)) start_2.requires.few)

module _ (a : goal.After-trace-2-1) where
  abbrev start_3 : goal.After-trace-2-1
  start_3 = a

  length_is_3 : start_3.args.n ≡ length (take start_3.args.n (replicate 256 (pos 0)))
  length_is_3 = sym (length-take-le start_3.args.n (replicate 256 (pos 0)) start_3.requires.few)

pub slice_bounds-trace-end : goal.slice_bounds-trace-end
slice_bounds-trace-end c = (start c).requires.few

pub slice_bounds-put_next-end : goal.slice_bounds-put_next-end
slice_bounds-put_next-end c = length_is_2 c

pub put_next-requires : goal.put_next-requires
put_next-requires c =
    let g = (start_2 c).args in
    let ready = Next g.source g.control.now g.samples.now g.nodes.now g.links.now g.bytes.now in
    subst (λ (k : ℕ). ready k g.number) (length_is_2 c) (start_2 c).requires

pub returns : goal.returns
returns c = λ work.
    let g = (start_3 c).args in
    let before = tables g.control.now g.samples.now g.nodes.now g.links.now work in
    c.put_next.ensures work
    ∙ ap (λ (k : ℕ). added_to before (get_or (traces_by g.source k g.bytes.now) g.number [])) (sym (length_is_3 c))
