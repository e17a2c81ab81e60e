-- `batching::answer_at` meets its contract: past the array's end there is 0.
use mathlib.Core.Path.{◌≡◌}
use Prim.Native.Nat.{◌+◌, ◌*◌}
use native.Mathlib.Omega.{arith}
use lib.ListN.{length, get_or-eq_default}
use borrow.Author.Rules.{rules}
use Rattle.batching.proofs.answer_at.Goals as goal

pub returns-else-i-lt16 : goal.returns-else-i-lt16
returns-else-i-lt16 c =
    let f = c.args.found in
    let i = c.args.i in
    let long : length f.bests ≡ 32 = search rules in
    rw (
      get_or-eq_default f.bests 0 {n = 2 * i} (omega (arith, long, c.if-i-lt16.false)),
      get_or-eq_default f.bests 0 {n = 2 * i + 1} (omega (arith, long, c.if-i-lt16.false)),
    )
