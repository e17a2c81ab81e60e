-- What is written lies in the lent memory: its places are counted by the contract alone.
use Rattle.std.specs.Prelude.{if◌then◌else◌}
use Prim.Native.Nat.{ℕ, ◌≤◌}
use mathlib.Core.Path.{◌≡◌, ap}
use mathlib.Core.Bool.{Bool, true, false}
use mathlib.Core.List.{List}
use native.Mathlib.Omega.{arith}
use lib.ListN.{length, drop, length-append}
use lib.Dec.{ltb}
use Rattle.dstree.specs.Program.{printed}
use Rattle.tables.specs.Beginning.{over}
use Rattle.sheet_line.specs.Lines.{Put, put, line_room, line_in}

pub written_inside : (sheet out : List ℕ) (count : ℕ) (after : List ℕ) → put count after ≡ line_in sheet out → count ≤ length after
unfolding line_in
written_inside sheet out count after e = by (ltb (length out) line_room) e
  where
    by : (short : Bool) → put count after ≡ (if short then put 0 out else put (length (printed sheet)) (over (printed sheet) out)) → count ≤ length after
    by true p = omega (arith, ap (λ (w : Put). w.count) p)
    by false p = omega (arith, ap (λ (w : Put). w.count) p, ap (λ (w : Put). length w.bytes) p, length-append (printed sheet) (drop (length (printed sheet)) out))
