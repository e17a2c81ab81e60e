-- `split_choice::choice::try_halves` meets its contract: the left half is tried, then the right one, as the definition has them.
use mathlib.Core.Path.{◌≡◌, sym, ap, ◌∙◌}
use mathlib.Core.Option.{Option}
use mathlib.Core.List.{List, ◌++◌, foldl-append}
use Prim.Native.Nat.{◌+◌}
use native.Mathlib.Omega.{arith}
use Rattle.dstree.specs.Figures.{run}
use Rattle.dstree.specs.Adding.{Candidate, Split, by_either, halves, cut_at}
use Rattle.leaf_figures.specs.Ends.{ends_of}
use Rattle.leaf_figures.specs.Rows.{stored_of}
use Rattle.split_choice.specs.Choosing.{chosen_by, try_one, tried}
use Rattle.split_choice.proofs.Halved.{ends_count, middle, middle_in, both_halves}
use Rattle.split_choice.proofs.choice.try_halves.Goals as goal

pub halves-requires : goal.halves-requires
halves-requires c = (c.requires.1.from_1, c.requires.4, omega (arith, c.requires.1.to_n, c.args.leaf.rows.traces.inside.narrow))

pub try_both-best-requires : goal.try_both-best-requires
try_both-best-requires c =
    let on = c.args.on in
    let all = ends_of c.args.leaf.ends in
    let m = middle_in all on.first on.last c.requires.1.from_1 c.requires.4 in
    rw c.halves.ensures (
      c.requires.0,
      record {
        inside = record { from_1 = c.requires.1.from_1; rises = m.0; to_n = omega (arith, m.1, c.requires.1.to_n) };
        room = λ f. omega (arith, ends_count c.args.leaf.ends c.requires.0.room, c.requires.5);
        rise = c.requires.2 (middle all on.first on.last) m.0 m.1;
      },
      c.requires.6,
    )

pub try_both-requires : goal.try_both-requires
try_both-requires c =
    let on = c.args.on in
    let all = ends_of c.args.leaf.ends in
    let m = middle_in all on.first on.last c.requires.1.from_1 c.requires.4 in
    rw c.halves.ensures (
      c.requires.0,
      record {
        inside = record { from_1 = omega arith; rises = omega (arith, m.1); to_n = c.requires.1.to_n };
        room = λ f. omega (arith, ends_count c.args.leaf.ends c.requires.0.room, c.requires.5);
        rise = c.requires.2 (middle all on.first on.last) m.0 m.1;
      },
      c.try_both-best.ensures.sound,
    )

pub returns : goal.returns
returns c =
    let l = c.args.leaf.rows.traces in
    let on = c.args.on in
    let all = ends_of c.args.leaf.ends in
    let m = middle all on.first on.last in
    let lefts = by_either (run on.first m) (cut_at m all) in
    let rights = by_either (run (m + 1) on.last) (cut_at m all) in
    let one = try_one (stored_of l) all l.list.now in
    let old = chosen_by (stored_of l) all l.list.now c.args.old in
    let e : halves all (run on.first on.last) ≡ lefts ++ rights =
    both_halves all on.first on.last c.requires.4 (omega (arith, ends_count c.args.leaf.ends c.requires.0.room, c.requires.5)) in
    let split : tried (stored_of l) all l.list.now old (halves all (run on.first on.last))
    ≡ tried (stored_of l) all l.list.now (tried (stored_of l) all l.list.now old lefts) rights =
    ap (λ (h : List Candidate). tried (stored_of l) all l.list.now old h) e ∙ foldl-append one old lefts rights in
    let first = rw c.halves.ensures at c.try_both-best.ensures.is in
    let last = rw c.halves.ensures at c.try_both.ensures.is in
    record { is = last ∙ (ap (λ (o : Option Split). tried (stored_of l) all l.list.now o rights) first ∙ sym split); sound = c.try_both.ensures.sound }
