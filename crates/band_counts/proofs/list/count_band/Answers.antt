-- `band_counts::list::count_band` meets its contract: both places of the band grow by what the leaf adds.
use mathlib.Core.Path.{ap₂}
use mathlib.Core.Bool.{◌&&◌}
use Prim.Native.Nat.{ℕ, ◌+◌, ◌*◌}
use native.Mathlib.Omega.{arith}
use native.Mathlib.Numerals.{add-one}
use lib.ListN.{get_or, set, length-set}
use lib.Dec.{leb, eqb}
use Rattle.band_counts.proofs.Counts.{at_most_many}
use Rattle.band_counts.proofs.list.count_band.Goals as goal

pub overflow_add-sure : goal.overflow_add-sure
overflow_add-sure c =
    let here = c.args.band + 1 in
    let m = at_most_many (eqb c.args.by_bound here && eqb c.args.by_upper here) c.args.traces in
    omega (arith, c.sure_more.ensures, m, c.requires.2, c.requires.3.sure_small)

pub overflow_add-possible-2 : goal.overflow_add-possible-2
overflow_add-possible-2 c =
    let here = c.args.band + 1 in
    let m = at_most_many (leb c.args.by_bound here && leb here c.args.by_upper) c.args.traces in
    omega (arith, c.possible_more.ensures, m, c.requires.2, c.requires.3.possible_small)

pub bounds-list-at-4 : goal.bounds-list-at-4
bounds-list-at-4 c = simp length-set (omega (arith, c.requires.1))

pub returns : goal.returns
returns c =
    let l = c.args.list.now in
    let band = c.args.band in
    ap₂ (λ (a b : ℕ). set (set l (2 * band) (get_or l (2 * band) 0 + a)) (2 * band + 1) (get_or l (2 * band + 1) 0 + b))
    (rw (add-one band) at c.sure_more.ensures) (rw (add-one band) at c.possible_more.ensures)
