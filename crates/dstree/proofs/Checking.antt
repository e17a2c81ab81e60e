-- Document 02, §6, of trees: the check says yes exactly if the records have the figures of the traces below; so it accepts what adding
-- makes, and adding to what it accepts leaves what it accepts. The statements are those of `specs/Checking`.
use Prim.Native.Nat.{ℕ, ◌≤◌, ◌<◌}
use mathlib.Core.Path.{◌≡◌}
use mathlib.Core.List.{List, [], ◌∷◌, ◌++◌}
use native.Mathlib.Omega.{arith}
use native.Mathlib.Decide.{dec_le}
use native.Mathlib.Nat.{lt_of_not-le}
use lib.ListN.{length, get_or-eq_default}
use lib.Dec.{T}
use Rattle.integer.specs.Words.{counting}
use Rattle.integer.proofs.Lists.{every_of, from_every, in_counting, from_counting}
use Rattle.dstree.specs.Measures.{Trace}
use Rattle.dstree.specs.Node.{Segment, Tree, node_at, ends}
use Rattle.dstree.specs.Adding.{traces_of, segments_of, insertion}
use Rattle.dstree.specs.Formed.{Shape}
use Rattle.dstree.specs.Claims.{Below, AllExact, exact_none, RangesOf}
use Rattle.dstree.specs.Checking.{traces_below, is_exact_at, is_exact, ExactnessOfFormed, AcceptedExact, MadeAccepted, AddingAccepted}
use Rattle.dstree.proofs.Formed.{empty_leaf, formed, well_formed_lem}
use Rattle.dstree.proofs.Invariant.{RangedInv, ranges_of, ranged_by}
use Rattle.dstree.proofs.Keeps.{insertion_ranged}
use Rattle.dstree.proofs.TracesBelow.{listed_below, below_listed, some_below}
use Rattle.dstree.proofs.Recomputed.{passed_is, is_passed, same_exact, recomputed, is_recomputed}
use Rattle.dstree.proofs.Laws as laws

module _ {n count : ℕ} {tree : Tree} (s : Shape n count tree) (stored : List Trace) where
  -- ---- one node

  pub exact_at : (k : ℕ) → k < length tree → T (is_exact_at stored tree k) → AllExact stored (λ t. Below tree t k) 1
      (node_at tree k).segments
  unfolding is_exact_at
  exact_at k h t =
      let l : List Segment = (node_at tree k).segments in
      let is : l ≡ segments_of (ends l) (traces_of stored (traces_below tree k)) = passed_is (traces_of stored (traces_below tree k)) 1 l t in
      same_exact (λ t i. listed_below s i) (λ t b. below_listed s b)
      (rw is (recomputed stored (traces_below tree k) (some_below s k h) 1 (ends l)))

  at_exact : (k : ℕ) → k < length tree → AllExact stored (λ t. Below tree t k) 1 (node_at tree k).segments → T (is_exact_at stored tree k)
  unfolding is_exact_at
  at_exact k h e =
      is_passed (traces_of stored (traces_below tree k)) 1 (node_at tree k).segments
      (is_recomputed stored (traces_below tree k) (some_below s k h) (same_exact (λ t b. below_listed s b) (λ t i. listed_below s i) e))

  -- ---- every node

  exact_ranges : T (is_exact stored tree) → RangesOf stored tree
  unfolding is_exact
  exact_ranges t k = by (dec_le (length tree) k)
    where
      by : Dec (length tree ≤ k) → AllExact stored (λ t. Below tree t k) 1 (node_at tree k).segments
      by (yes h) = rw (get_or-eq_default tree empty_leaf h) exact_none
      by (no f) =
          let h : k < length tree = lt_of_not-le f in
          exact_at k h (from_every (is_exact_at stored tree) (counting (length tree) 0) t
          (in_counting (length tree) 0 k (omega arith) (omega arith)))

  ranges_exact : RangesOf stored tree → T (is_exact stored tree)
  unfolding is_exact
  ranges_exact r =
      every_of (is_exact_at stored tree) (counting (length tree) 0)
      (λ k i. at_exact k (omega (arith, from_counting (length tree) 0 i)) (r k))

pub exactness : ExactnessOfFormed
exactness limit m stored tree w =
    let s = (formed limit m (length stored) tree w).shape in
    record { exact_ranges = exact_ranges s stored; ranges_exact = ranges_exact s stored }

-- ---- what is claimed of exact trees holds of accepted ones

pub accepted_exact : AcceptedExact
accepted_exact limit m stored tree w each t =
    record { well_formed_lem = w; of_n = each; ranges = (exactness limit m stored tree w).exact_ranges t }

-- "It accepts every library made by calls"
pub made_accepted : MadeAccepted
made_accepted limit m traces library =
    (exactness limit m traces _ (laws.shape limit m traces library).well_formed_lem).ranges_exact (laws.ranges limit m traces library)

-- adding to what is accepted leaves what is accepted
pub adding_accepted : AddingAccepted
adding_accepted limit m stored tree x w all is_trace_lem room t =
    let old : RangedInv limit m stored tree = record {
      formed = formed limit m (length stored) tree w;
      ranged = ranged_by ((exactness limit m stored tree w).exact_ranges t);
    } in
    let new : RangedInv limit m (stored ++ (x ∷ []))
    (insertion m stored tree x) = insertion_ranged limit m stored tree x old room all is_trace_lem in
    (exactness limit m (stored ++ (x ∷ [])) (insertion m stored tree x) (well_formed_lem new.formed)).ranges_exact (ranges_of new.ranged)
