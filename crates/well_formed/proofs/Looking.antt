-- A first look, node by node: what is known of the nodes visited, and that all visited pass the rules on records.
use Prim.Native.Nat.{ℕ, ◌+◌, ◌-◌, ◌≤◌, ◌<◌}
use mathlib.Core.Path.{◌≡◌, refl, sym, ◌∙◌}
use mathlib.Core.Bool.{true}
use mathlib.Core.List.{List}
use native.Mathlib.Omega.{arith}
use lib.IntN.{ℤ}
use lib.Dec.{eqb}
use borrow.Author.Count.{below_none, below_more}
use borrow.Author.Tests.{eqb-true}
use Rattle.integer.specs.Words.{counting, times_in}
use Rattle.integer.proofs.Lists.{same_or_not, In, InFlat, flat, from_flat, from_counting, from_every}
use Rattle.integer.proofs.Tests.{is_true}
use Rattle.integer.proofs.Times.{times_in_lem}
use Rattle.tables.specs.Tables.{record_of}
use Rattle.records_fit.specs.Fits.{segments_hold, record_fits, records_fit, kept_at, all_kept}
use Rattle.records_fit.proofs.Limits.{passing}
use Rattle.records_fit.proofs.Loops.{all_passed, each_passes}
use Rattle.well_formed.specs.Visits.{NodeVisited, VisitedFirst, RecordsPassed}
use Rattle.numbers_fit.specs.Tests.{children_at, children_of_first, children_once, first_at, marked_once}
use Rattle.numbers_fit.proofs.Growth.{grown_firsts, firsts_none}
use Rattle.numbers_fit.proofs.Taking.{marked_start, marked_more, marked_end}
use Rattle.numbers_fit.proofs.Once.{no_marks, marked_is}

module _ (n m k : ℕ) (nodes : List ℤ) where
  pub visited_none : (marks named : List ℕ) → VisitedFirst n m k nodes 0 marks marks named named
  visited_none marks named = record {
    heads = below_none _;
    unders = below_none _;
    children = firsts_none (children_at nodes) marks;
    firsts = marked_end (first_at nodes) k (marked_start (first_at nodes) k named) 0 refl;
  }

  pub visited_more : {marks marked more named after last : List ℕ} {j : ℕ} → VisitedFirst n m k nodes j marks marked named after
      → NodeVisited n m k nodes j marked more after last → VisitedFirst n m k nodes (j + 1) marks more named last
  visited_more {j = j} w v = record {
    heads = below_more _ j w.heads v.head;
    unders = below_more _ j w.unders v.under;
    children = grown_firsts (children_at nodes) w.children v.children;
    firsts = marked_end (first_at nodes) k (marked_more (first_at nodes) k (record { below = w.firsts.below refl; grown = w.firsts.new refl }) v.first refl) (j + 1) refl;
  }

  -- every node was visited, node 0 by itself, and each other one is a child
  module _ {marked named after : List ℕ} (w : VisitedFirst n m k nodes m no_marks marked named after) (some : 0 < m) (low : m ≤ 8191)
      (root : segments_hold n (record_of nodes 0) ≡ true) (all : marked_once marked 1 (m - 1) ≡ true) where
    once : children_once m nodes ≡ true
    unfolding children_once
    once = sym (marked_is (children_of_first nodes m) 1 (m - 1) w.children (omega (arith, low))) ∙ all

    child : (j : ℕ) → 1 ≤ j → j < m → In j (children_of_first nodes m)
    unfolding children_once
    child j g h =
        let e = each_passes (λ number. eqb (times_in number (children_of_first nodes m)) 1) (m - 1) 1 once j g (omega (arith, h, some)) in
        times_in_lem j (children_of_first nodes m) (omega (arith, eqb-true (times_in j (children_of_first nodes m)) 1 e))

    holds : (j : ℕ) → j < m → segments_hold n (record_of nodes j) ≡ true
    holds j h = by (same_or_not j 0)
      where
        under : InFlat (children_at nodes) j (counting m 0) → segments_hold n (record_of nodes j) ≡ true
        under (flat x i l) =
            sym (passing (from_every (λ c. segments_hold n (record_of nodes c)) (children_at nodes x) (is_true (w.unders x (omega (arith, (from_counting m 0 i).1))).hold) l))

        by : Dec (j ≡ 0) → segments_hold n (record_of nodes j) ≡ true
        by (yes e) = rw e root
        by (no f) = under (from_flat (children_at nodes) (counting m 0) (child j (omega (arith, f)) h))

    fits : (j : ℕ) → j < m → record_fits n m j (record_of nodes j) ≡ true
    unfolding record_fits
    fits j h = rw (w.heads j h, holds j h)

    pub all_visited : RecordsPassed n m k nodes named after
    unfolding records_fit all_kept
    all_visited = record {
      some = some;
      fit = sym (all_passed (λ j. record_fits n m j (record_of nodes j)) m 0 (λ j g h. fits j (omega (arith, h))));
      kept = sym (all_passed (kept_at nodes) m 0 (λ j g h. (w.unders j (omega (arith, h))).kept));
      once = once;
      firsts = w.firsts;
    }
