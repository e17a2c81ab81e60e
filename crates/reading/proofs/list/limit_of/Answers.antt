-- `reading::list::limit_of` meets its contract: no limit stands for none.
use mathlib.Core.Path.{◌≡◌, refl}
use mathlib.Core.Bool.{Bool, true, false}
use Prim.Native.Nat.{ℕ, ◌-◌}
use lib.Dec.{ltb}
use Rattle.std.specs.Prelude.{Some, None, unwrap_or, if◌then◌else◌}
use Rattle.reading.specs.Listed.{record_at, kth_distance, limit_of, no_limit}
use Rattle.reading.proofs.list.limit_of.Goals as goal

or_none : (b : Bool) (d : ℕ) → unwrap_or (if b then None else Some d) no_limit ≡ (if b then no_limit else d)
or_none true d = refl
or_none false d = refl

pub returns : goal.returns
unfolding kth_distance limit_of
returns c =
    let a = c.args in
    let d = (record_at a.list.now (a.k - 1)).distance in
    rw (c.unwrap_or.ensures, c.kth_distance.ensures) (or_none (ltb a.listed a.k) d)
