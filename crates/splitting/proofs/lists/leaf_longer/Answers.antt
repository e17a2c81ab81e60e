-- `splitting::lists::leaf_longer` meets its contract: what is seen and what is still to come make the list. The links rise, so that no more
-- is seen than lies below the place where the walk stands, and what is left to k falls.
use mathlib.Core.Path.{◌≡◌, ap}
use Prim.Native.Nat.{ℕ, suc, ◌≤◌, ◌<◌}
use native.Mathlib.Omega.{arith}
use lib.ListN.{length}
use lib.Dec.{ltb}
use Rattle.tables.specs.Walk.{numbers_of, behind_of}
use Rattle.tables.proofs.Listed.{met_from, met_start, met_end, met_more, behind_rises}
use Rattle.splitting.proofs.lists.leaf_longer.Goals as goal

-- how far the walk goes on
further : (c : goal.After-behind-t) → (c.loop-t.t < c.behind-t.result) × (c.behind-t.result ≤ c.args.k)
further c =
    let h = behind_rises c.args.links.now c.args.k c.requires.2 c.loop-t.t c.loop-t-test.true in
    (omega (arith, h, c.behind-t.ensures), omega (arith, h, c.behind-t.ensures))

pub loop-t-init : goal.loop-t-init
loop-t-init c =
    let start : length (met_from c.args.links.now c.args.k c.args.head) ≡ length (numbers_of c.args.links.now c.args.k c.args.head) =
    ap length (met_start c.args.links.now c.args.k c.args.head c.requires.0) in
    (omega arith, omega arith, omega (arith, start))

pub loop-t-smaller : goal.loop-t-smaller
loop-t-smaller c = let h = further c in omega arith

pub loop-t-preserved : goal.loop-t-preserved
loop-t-preserved c =
    let l = c.loop-t in
    let h = further c in
    let more : length (met_from c.args.links.now c.args.k l.t) ≡ suc (length (met_from c.args.links.now c.args.k (behind_of c.args.links.now c.args.k l.t))) =
    ap length (met_more c.args.links.now c.args.k c.requires.2 l.t c.loop-t-test.true) in
    let there : length (met_from c.args.links.now c.args.k c.behind-t.result) ≡ length (met_from c.args.links.now c.args.k (behind_of c.args.links.now c.args.k l.t)) =
    ap (λ (u : ℕ). length (met_from c.args.links.now c.args.k u)) c.behind-t.ensures in
    (omega arith, omega arith, omega (arith, l.invariant.2, more, there))

pub returns : goal.returns
returns c =
    let l = c.loop-t in
    let none : length (met_from c.args.links.now c.args.k l.t) ≡ 0 = ap length (met_end c.args.links.now c.args.k l.t c.loop-t-test.false) in
    let all : l.seen ≡ length (numbers_of c.args.links.now c.args.k c.args.head) = omega (arith, l.invariant.2) in
    ap (ltb c.args.leaf_size) all
