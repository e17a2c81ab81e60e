-- `insertion::lists::join` meets its contract: the two stores are the definition's, and the last of the list is a stored trace (`Chain`).
use mathlib.Core.Path.{◌≡◌, ap}
use Prim.Native.Nat.{ℕ, ◌<◌}
use native.Mathlib.Omega.{arith}
use lib.ListN.{set, length-set}
use Rattle.integer.specs.Words.{last_of}
use Rattle.tables.specs.Walk.{numbers_of}
use Rattle.insertion_memory.specs.Links.{joined}
use Rattle.insertion.proofs.Chain.{last_in}
use Rattle.insertion.proofs.lists.join.Goals as goal

below : (c : goal.After-last_of-last) → c.last_of-last.result < c.args.k
below c =
    let e : c.last_of-last.result ≡ last_of (numbers_of c.args.links.now c.args.k c.args.head) = c.last_of-last.ensures in
    omega (arith, e, last_in c.args.links.now c.args.k c.requires.3 c.args.head c.requires.0)

pub offset_bounds-links-last : goal.offset_bounds-links-last
offset_bounds-links-last c = let h = below c in omega arith

pub bounds-links-last : goal.bounds-links-last
bounds-links-last c = let h = below c in omega arith

pub bounds-links-k : goal.bounds-links-k
bounds-links-k c = simp length-set (omega arith)

pub returns : goal.returns
unfolding joined
returns c =
    let a = c.args in
    let e : c.last_of-last.result ≡ last_of (numbers_of a.links.now a.k a.head) = c.last_of-last.ensures in
    ap (λ (y : ℕ). set (set a.links.now y a.k) a.k 0) e
