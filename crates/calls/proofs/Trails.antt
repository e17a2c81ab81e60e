-- A trail is in the order of reading, by bound and then by number, whatever the tree: the leaves read are the first of that order.
use Rattle.std.specs.Prelude.{if◌then◌else◌}
use Prim.Native.Nat.{ℕ, suc}
use mathlib.Core.Path.{◌≡◌, refl, sym, ap, ap₂, subst, ◌∙◌}
use mathlib.Core.Bool.{Bool, true, false}
use mathlib.Core.Option.{Option, none, some}
use mathlib.Core.List.{List, [], ◌∷◌, ◌++◌, map, append_assoc, append-nil}
use native.Mathlib.Omega.{arith}
use lib.ListN.{length, take}
use Rattle.integer.specs.Lists.{In, first, later}
use Rattle.integer.specs.Sorting.{sorted_by, poured_by, Ordered, ordered_none}
use Rattle.integer.proofs.Sorting.{LinearOrder, inserted_ordered, take_ordered, from_take}
use Rattle.dstree.specs.Measures.{Trace}
use Rattle.dstree.specs.Node.{Tree}
use Rattle.dstree.specs.Matching.{bound, LeafBound, before, leaves, reading_order, read_on, Near, is_nearer, Search, searched, match_from, Match}
use Rattle.dstree.specs.KNearest.{Listing, read_into, stops_at_kth, listed}
use Rattle.dstree.proofs.Ranks.{linear}
use Rattle.dstree.proofs.Reading.{reading_of}
use Rattle.dstree.proofs.KSteps.{one_searched}
use Rattle.calls.specs.Trails.{ByBound}

-- ---- the order of reading

abbrev as_near : LeafBound → Near
as_near a = record { trace = a.number; distance = a.bound }

abbrev as_leaf : Near → LeafBound
as_leaf a = record { number = a.trace; bound = a.distance }

before_linear : LinearOrder before
unfolding before is_nearer
before_linear = record {
  irreflexive = λ a. linear.irreflexive (as_near a);
  transitive = λ a b c p q. linear.transitive (as_near a) (as_near b) (as_near c) p q;
  total = λ a b p q. ap as_leaf (linear.total (as_near a) (as_near b) p q);
}

sorted_ordered : (l : List LeafBound) → Ordered before (sorted_by before l)
unfolding poured_by
sorted_ordered [] = ordered_none
sorted_ordered (a ∷ rest) = inserted_ordered before_linear a (sorted_ordered rest)

-- ---- the leaves read are the first

abbrev numbers : List LeafBound → List ℕ
numbers = map (λ (a : LeafBound). a.number)

module _ {S : Type 0} (stop : S → ℕ → Bool) (read : S → ℕ → S) (trail : S → List ℕ)
    (adds : (s : S) (number : ℕ) → trail (read s number) ≡ trail s ++ (number ∷ [])) where
  record Reads (s : S) (l : List LeafBound) (end : S) : Type 0 where
    pub many : ℕ
    pub is : trail end ≡ trail s ++ numbers (take many l)

  reads : (s : S) (l : List LeafBound) → Reads s l (read_on stop read s l)
  unfolding read_on
  reads s [] = record { many = 0; is = sym (append-nil (trail s)) }
  reads s (next ∷ rest) = by (stop s next.bound) (reads (read s next.number) rest)
    where
      onward : S
      onward = read_on stop read (read s next.number) rest

      by : (b : Bool) → Reads (read s next.number) rest onward → Reads s (next ∷ rest) (if b then s else onward)
      by true r = record { many = 0; is = sym (append-nil (trail s)) }
      by false r = record {
        many = suc r.many;
        is = r.is ∙ (ap (λ (l : List ℕ). l ++ numbers (take r.many rest)) (adds s next.number)
            ∙ append_assoc (trail s) (next.number ∷ []) (numbers (take r.many rest)));
      }

module _ (tree : Tree) (query : Trace) where
  abbrev with_bound : ℕ → LeafBound
  with_bound number = record { number = number; bound = bound tree query number }

  with_own : (l : List LeafBound) → ((a : LeafBound) → In a l → In a (reading_order tree query)) → map with_bound (numbers l) ≡ l
  with_own [] h = refl
  with_own (a ∷ l) h =
      ap₂ (λ (x : LeafBound) (r : List LeafBound). x ∷ r)
      (ap (λ (d : ℕ). record { number = a.number; bound = d }) (sym (reading_of tree query (h a first)).1))
      (with_own l (λ b i. h b (later i)))

  reading_ordered : Ordered before (reading_order tree query)
  unfolding reading_order
  reading_ordered = sorted_ordered (map with_bound (leaves tree))

  first_by_bound : (many : ℕ) → ByBound tree query (numbers (take many (reading_order tree query)))
  first_by_bound many = subst (Ordered before)
      (sym (with_own (take many (reading_order tree query)) (λ a i. from_take many (reading_order tree query) i)))
      (take_ordered before_linear many reading_ordered)

  -- a trail that is the first leaves of the order of reading
  pub beginning_by_bound : {trail : List ℕ} → trail ≡ numbers (take (length trail) (reading_order tree query)) → ByBound tree query trail
  beginning_by_bound {trail} e = subst (ByBound tree query) (sym e) (first_by_bound (length trail))

  pub list_by_bound : (k : ℕ) (stored : List Trace) → ByBound tree query (listed k stored tree query).trail
  unfolding listed read_into
  list_by_bound k stored =
      let r = reads (stops_at_kth k) (read_into k stored tree query) (λ (s : Listing). s.trail) (λ s number. refl)
      (record { list = []; traces = 0; trail = [] }) (reading_order tree query) in
      subst (ByBound tree query) (sym r.is) (first_by_bound r.many)

  pub search_by_bound : (stored : List Trace) → ByBound tree query (searched stored tree query).trail
  search_by_bound stored = subst (λ (l : Listing). ByBound tree query l.trail) (one_searched stored tree query) (list_by_bound 1 stored)

-- a match's trail is its search's
pub match_trail : (s : Search) (best : Option Near) (m : Match) → match_from s best ≡ some m → s.trail ≡ m.trail
unfolding match_from
match_trail s (some a) m e = cc
match_trail s none m e = let z : ◌≡◌ {A = ℕ} 0 1 = cc in absurd (omega arith)
