-- `examples::in_largest_tables` is safe: each array is as long as it was made. (Its length is cited, not computed: the arrays have
-- thousands of places.)
use mathlib.Core.Path.{sym}
use Prim.Native.Nat.{ℕ}
use lib.ListN.{length-replicate}
use Rattle.examples.proofs.in_largest_tables.Goals as goal

pub slice_bounds-open-end-2 : goal.slice_bounds-open-end-2
slice_bounds-open-end-2 c = sym (length-replicate {A = ℕ} 4096 7)

pub slice_bounds-open-end-3 : goal.slice_bounds-open-end-3
slice_bounds-open-end-3 c = sym (length-replicate {A = ℕ} 8191 7)

pub slice_bounds-open-end-4 : goal.slice_bounds-open-end-4
slice_bounds-open-end-4 c = sym (length-replicate {A = ℕ} 4096 7)
