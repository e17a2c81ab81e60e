-- `tables::runs::trace_at` meets its contract: the part is trace t.
use mathlib.Core.Path.{◌≡◌, ap}
use Prim.Native.Nat.{ℕ, ◌+◌, ◌*◌, ◌-◌}
use native.Mathlib.Omega.{arith}
use lib.ListN.{take, drop}
use Rattle.segment.specs.Stored.{samples_of}
use Rattle.tables.specs.View.{trace_in}
use Rattle.tables.proofs.runs.trace_at.Goals as goal

pub returns : goal.returns
unfolding trace_in
returns c =
    let a = c.args in
    let e : a.t * a.n + a.n - a.t * a.n ≡ a.n = omega arith in
    ap (λ (w : ℕ). samples_of (take w (drop (a.t * a.n) a.samples.now))) e
