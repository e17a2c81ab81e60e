-- A tree that is well-formed within a limit of samples is so within a wider one.
use Prim.Native.Nat.{ℕ, ◌*◌, ◌≤◌}
use mathlib.Core.List.{List}
use native.Mathlib.Omega.{arith}
use native.Mathlib.Nat.{le_trans, mul-le-mul, mul-le-mul_left}
use lib.IntN.{ℤ}
use Rattle.integer.proofs.Order.{≤ℤ_trans, pos_mono}
use Rattle.segment.specs.Limits.{sum_limit, scatter_limit, root_limit}
use Rattle.dstree.specs.Figures.{width}
use Rattle.dstree.specs.Node.{Segment, Figure, by_sum, by_scatter, Tree}
use Rattle.dstree.specs.SheetWidths.{OldTrees}
use Rattle.dstree.proofs.Formed.{Limited, AllLimited, l_none, l_more, Between, Limits, formed, well_formed_lem}

module _ (limit wider : ℕ) (h : limit ≤ wider) where
  sum_wider : (w : ℕ) → sum_limit limit w ≤ sum_limit wider w
  unfolding sum_limit
  sum_wider w = mul-le-mul_left w h

  scatter_wider : (w : ℕ) → scatter_limit limit w ≤ scatter_limit wider w
  unfolding scatter_limit
  scatter_wider w = mul-le-mul_left (w * w) (mul-le-mul {n₁ = limit} {m₁ = limit} {n₂ = wider} {m₂ = wider} h h)

  root_wider : (w : ℕ) → root_limit limit w ≤ root_limit wider w
  unfolding root_limit
  root_wider w = mul-le-mul_left w h

  limited : (w : ℕ) (s : Segment) → Limited limit w s → Limited wider w s
  limited w s l = record {
    sums = l.sums;
    scatters = l.scatters;
    least_sum_lem = le_trans l.least_sum_lem (sum_wider w);
    greatest_sum_lem = le_trans l.greatest_sum_lem (sum_wider w);
    greatest_scatter_lem = le_trans l.greatest_scatter_lem (scatter_wider w);
  }

  all_limited : {from : ℕ} {l : List Segment} → AllLimited limit from l → AllLimited wider from l
  all_limited l_none = l_none
  all_limited (l_more {s = s} one rest) = l_more (limited _ s one) (all_limited rest)

  between : (figure : Figure) (w : ℕ) (t : ℤ) → Between limit figure w t → Between wider figure w t
  between by_sum w t b = omega (arith, b, sum_wider w)
  between by_scatter w t b = (b.0, ≤ℤ_trans b.1 (pos_mono (omega (arith, root_wider w))))

  wider_limits : {n : ℕ} {tree : Tree} → Limits limit n tree → Limits wider n tree
  wider_limits l = record {
    figures = λ k in_tree. all_limited (l.figures k in_tree);
    tests = λ k test left right e.
        let t = l.tests k test left right e in
        record { run_in = t.run_in; threshold_in = between test.figure (width test.on) test.threshold t.threshold_in };
  }

pub old_trees : OldTrees
old_trees limit wider h m count tree t =
    let f = formed limit m count tree t in
    well_formed_lem (record { measured = f.measured; room = f.room; shape = f.shape; limits = wider_limits limit wider h f.limits })
