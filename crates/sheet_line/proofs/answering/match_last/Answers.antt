-- `sheet_line::answering::match_last` meets its contract: a trace's samples have room in 64 places.
use mathlib.Core.Path.{◌≡◌, sym, subst}
use Prim.Native.Nat.{ℕ, ◌≤◌}
use native.Mathlib.Omega.{arith}
use lib.IntN.{pos}
use lib.ListN.{length, take, replicate}
use lib.Seq.{length-take-le}
use Rattle.dstree.specs.Measures.{records_needed}
use Rattle.sheet_line.specs.Stored.{EarlierStored}
use Rattle.sheet_line.proofs.Judged.{n_small}
use Rattle.sheet_line.proofs.answering.match_last.Goals as goal

-- so many of 64 places
length_is : (n : ℕ) → n ≤ 64 → n ≡ length (take n (replicate 64 (pos 0)))
length_is n few = sym (length-take-le n (replicate 64 (pos 0)) few)

pub slice_bounds-query-end : goal.slice_bounds-query-end
slice_bounds-query-end c = omega (arith, c.requires.size, n_small c.args.sheet.now c.requires.fine)

pub slice_bounds-match_query-end-2 : goal.slice_bounds-match_query-end-2
slice_bounds-match_query-end-2 c = length_is c.args.n (omega (arith, c.requires.size, n_small c.args.sheet.now c.requires.fine))

pub match_query-requires : goal.match_query-requires
unfolding records_needed
match_query-requires c =
    let g = c.args in
    let same : g.n ≡ length (take g.n (replicate 64 (pos 0))) = length_is g.n (omega (arith, c.requires.size, n_small g.sheet.now c.requires.fine)) in (
      subst (λ (k : ℕ). EarlierStored g.stored.control.now g.stored.samples.now g.stored.nodes.now g.stored.links.now g.work.now g.sheet.now k g.last) same c.requires,
      omega arith,
    )
