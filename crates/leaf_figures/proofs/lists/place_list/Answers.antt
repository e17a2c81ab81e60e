-- `leaf_figures::lists::place_list` meets its contract: each number met has its place, and a number met again has the later one.
use mathlib.Core.Path.{◌≡◌, subst, sym, ◌∙◌}
use Prim.Native.Nat.{ℕ, ◌<◌}
use native.Mathlib.Omega.{arith}
use lib.ListN.{length, get_or, take, length-set}
use Rattle.std.proofs.lemmas.List.{take_all}
use Rattle.integer.proofs.Lists.{In, in_get_or}
use Rattle.leaf_figures.proofs.Listing.{place_more}
use Rattle.leaf_figures.proofs.lists.place_list.Goals as goal

pub bounds-place-from : goal.bounds-place-from
bounds-place-from c =
    let list = c.args.list.now in
    subst (λ (t : ℕ). t < 4096) (sym c.from.ensures) (c.requires.2 (get_or list c.loop-i.i 0) (in_get_or list c.loop-i.i 0 c.loop-i-test.true))

pub loop-i-preserved : goal.loop-i-preserved
loop-i-preserved c =
    let l = c.loop-i in
    let list = c.args.list.now in
    let room : c.from.result < length l.place =
    subst (λ (t : ℕ). t < length l.place) (sym c.from.ensures)
    (omega (arith, c.requires.2 (get_or list l.i 0) (in_get_or list l.i 0 c.loop-i-test.true), l.invariant.0)) in
    let more = place_more list l.place l.i c.from.result c.loop-i-test.true c.from.ensures room l.invariant.1 l.invariant.2 in
    (length-set l.place c.from.result l.i ∙ l.invariant.0, λ t m. (more t m).0, λ t m. (more t m).1)

pub returns : goal.returns
returns c =
    let l = c.loop-i in
    let list = c.args.list.now in
    let all : take l.i list ≡ list = take_all l.i list c.loop-i-test.false in
    record {
      places = l.invariant.0;
      inside = c.requires.2;
      row = λ t m. omega (arith, l.invariant.1 t (subst (In t) (sym all) m), c.loop-i.auto.i-end);
      back = λ t m. l.invariant.2 t (subst (In t) (sym all) m);
    }
