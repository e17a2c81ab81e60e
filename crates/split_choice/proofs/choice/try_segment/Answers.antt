-- `split_choice::choice::try_segment` meets its contract: the whole segment is tried, and its halves where the definition has them.
use mathlib.Core.Path.{◌≡◌, sym, ap, ◌∙◌}
use mathlib.Core.Option.{Option}
use mathlib.Core.List.{List, [], ◌++◌, foldl-append}
use native.Mathlib.Omega.{arith}
use Prim.Native.Nat.{ℕ}
use Rattle.dstree.specs.Measures.{Trace}
use Rattle.dstree.specs.Figures.{run}
use Rattle.dstree.specs.Adding.{Candidate, Split, by_either, halves}
use Rattle.leaf_figures.specs.Ends.{ends_of}
use Rattle.leaf_figures.specs.Rows.{stored_of}
use Rattle.split_choice.specs.Choosing.{chosen_by, try_one, tried}
use Rattle.split_choice.proofs.Halved.{ends_count, no_room, no_width}
use Rattle.split_choice.proofs.choice.try_segment.Goals as goal

-- with no halves the whole segment is all
whole_only : (stored : List Trace) (all numbers : List ℕ) (old : Option Split) (wholes none : List Candidate) → none ≡ []
    → tried stored all numbers old wholes ≡ tried stored all numbers old (wholes ++ none)
whole_only stored all numbers old wholes none e =
    sym (foldl-append (try_one stored all numbers) old wholes none ∙ ap (λ (h : List Candidate). tried stored all numbers (tried stored all numbers old wholes) h) e)

pub try_both-whole-requires : goal.try_both-whole-requires
try_both-whole-requires c =
    (c.requires.0, record { inside = c.requires.1; room = λ f. absurd (cc f); rise = c.requires.0.rise }, c.requires.4)

pub returns-then-leaf-ge16 : goal.returns-then-leaf-ge16
returns-then-leaf-ge16 c =
    let l = c.args.leaf.rows.traces in
    let e = c.args.leaf.ends in
    let on = run c.args.on.first c.args.on.last in
    let g = c.try_both-whole.ensures in record {
      is = g.is ∙ whole_only (stored_of l) (ends_of e) l.list.now (chosen_by (stored_of l) (ends_of e) l.list.now c.args.old) (by_either on (ends_of e)) (halves (ends_of e) on)
          (no_room (ends_of e) c.args.on.first c.args.on.last (omega (arith, ends_count e c.requires.0.room, c.if-leaf-ge16.true)));
      sound = g.sound;
    }

pub returns-then-on : goal.returns-then-on
returns-then-on c =
    let l = c.args.leaf.rows.traces in
    let e = c.args.leaf.ends in
    let on = run c.args.on.first c.args.on.last in
    let g = c.try_both-whole.ensures in record {
      is = g.is ∙ whole_only (stored_of l) (ends_of e) l.list.now (chosen_by (stored_of l) (ends_of e) l.list.now c.args.old) (by_either on (ends_of e)) (halves (ends_of e) on)
          (no_width (ends_of e) c.args.on.first c.args.on.last c.if-on.true);
      sound = g.sound;
    }

pub returns : goal.returns
returns c =
    let l = c.args.leaf.rows.traces in
    let e = c.args.leaf.ends in
    let on = run c.args.on.first c.args.on.last in
    let one = try_one (stored_of l) (ends_of e) l.list.now in record {
      is = c.try_halves.ensures.is
          ∙ (ap (λ (o : Option Split). tried (stored_of l) (ends_of e) l.list.now o (halves (ends_of e) on)) c.try_both-whole.ensures.is
          ∙ sym (foldl-append one (chosen_by (stored_of l) (ends_of e) l.list.now c.args.old) (by_either on (ends_of e)) (halves (ends_of e) on)));
      sound = c.try_halves.ensures.sound;
    }
