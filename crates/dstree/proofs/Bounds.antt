-- No node's bound exceeds the query's distance to a trace below it, and a node's bound is the greater of its own and its parent's.
-- The first goes segment by segment (`segment`'s law), then up the path, below each node of which the trace is too.
-- The second says that the definition's fuel is enough: a parent is numbered below its child, so any fuel above a node's number gives its
-- bound.
use Rattle.std.specs.Prelude.{if◌then◌else◌}
use Prim.Native.Nat.{ℕ, zero, suc, ◌+◌, ◌-◌, ◌≤◌, ◌<◌, max}
use mathlib.Core.Path.{◌≡◌, refl, sym, ◌∙◌, ap, subst}
use mathlib.Core.Bool.{Bool, true, false}
use mathlib.Core.Option.{Option, none, some}
use mathlib.Core.List.{List, [], ◌∷◌}
use native.Mathlib.Omega.{arith}
use lib.ListN.{length, get_or, take, drop, length-take, length-drop}
use lib.Seq.{drop-drop}
use lib.Dec.{T}
use Rattle.integer.proofs.Tests.{is_true}
use Rattle.segment.specs.Figures.{distance}
use Rattle.segment.proofs.Sums.{distance_cut}
use Rattle.segment.proofs.Bound.{segment_bound_lem}
use Rattle.dstree.specs.Measures.{Trace}
use Rattle.dstree.specs.Figures.{Run, run, width, samples_on}
use Rattle.dstree.specs.Node.{Segment, Node, Tree, node_at, ends, total_over}
use Rattle.dstree.specs.Matching.{bound_on, own_bound, has_child, parent_from, bound_from, bound}
use Rattle.dstree.specs.Claims.{Below, of_child}
use Rattle.dstree.proofs.Ranges.{CoveredOn, Covered, covered_none, covered_more}
use Rattle.dstree.specs.Formed.{Rises, rises_none, rises_more, RunIn}
use Rattle.dstree.proofs.Cuts.{parted_rises}
use Rattle.dstree.proofs.Below.{below_stored, below_inside}
use Rattle.dstree.proofs.Containing.{Containing}

-- ---- a node's own bound

-- "(g² + h²) / w, .. rounded up" is at most the distance on the segment
term_at_most : (query y : Trace) (on : Run) (s : Segment) → CoveredOn y on s → length (samples_on on query) ≡ width on
    → length (samples_on on y) ≡ width on → 0 < width on → bound_on query on s ≤ distance (samples_on on query) (samples_on on y)
unfolding bound_on
term_at_most query y on s h lq ly w =
    segment_bound_lem (record {
      width = width on;
      least_sum = s.least_sum;
      greatest_sum = s.greatest_sum;
      least_scatter = s.least_scatter;
      greatest_scatter = s.greatest_scatter;
    }) (samples_on on query) (samples_on on y) (lq ∙ sym ly)
    (record { width_is = ly; sum_above = h.sum_low; sum_below = h.sum_high; scatter_above = h.scatter_low; scatter_below = h.scatter_high }) w

pub samples_are : (f e : ℕ) (x : Trace) → samples_on (run (suc f) e) x ≡ take (suc e - suc f) (drop f x)
unfolding samples_on
samples_are f e x = let z : suc f - 1 ≡ f = omega arith in rw z

-- a trace of n samples has as many on a run inside 1 to n as the run is wide
pub samples_length : {n : ℕ} (on : Run) (x : Trace) → RunIn n on → length x ≡ n → length (samples_on on x) ≡ width on
unfolding samples_on
samples_length on x r l = simp (length-take, length-drop) (omega (arith, r.from_1, r.rises, r.to_n))

module _ (n : ℕ) (query y : Trace) (lq : length query ≡ n) (ly : length y ≡ n) where
  parts_at_most : (f : ℕ) {l : List Segment} → Covered y (suc f) l → Rises n (suc f) (ends l) → total_over (bound_on query) (suc f) l ≤ distance (drop f query) (drop f y)
  unfolding total_over
  parts_at_most f covered_none rises_none = omega arith
  parts_at_most f (covered_more {s} {rest} h w) (rises_more a b r) =
      let i : RunIn n (run (suc f) s.end) = record { from_1 = omega arith; rises = a; to_n = b } in
      let e : f + (suc s.end - suc f) ≡ s.end = omega arith in
      let d : ℕ = suc s.end - suc f in
      let t : bound_on query (run (suc f) s.end) s ≤ distance (take d (drop f query)) (take d (drop f y)) =
      rw (samples_are f s.end query, samples_are f s.end y) at
      (term_at_most query y (run (suc f) s.end) s h (samples_length (run (suc f) s.end) query i lq) (samples_length (run (suc f) s.end) y i ly) (omega arith)) in
      let o : total_over (bound_on query) (suc s.end) rest ≤ distance (drop d (drop f query)) (drop d (drop f y)) =
      rw (drop-drop d f query, drop-drop d f y, e) (parts_at_most s.end w r) in
      omega (arith, distance_cut d (drop f query) (drop f y), t, o)

  own_within : (a : Node) → Covered y 1 a.segments → Rises n 1 (ends a.segments) → own_bound query a ≤ distance query y
  unfolding own_bound
  own_within a w r = parts_at_most 0 w r

-- ---- parents

-- the parent that is found has the child, and none is found only where no node has it
data Found (tree : Tree) (child number : ℕ) : Option ℕ → Type 0 where
  found : (j : ℕ) → T (has_child child (node_at tree j).kind) → Found tree child number (some (number + j))
  not_found : ((j : ℕ) → T (has_child child (node_at tree j).kind) → ⊥) → Found tree child number none

parent_from_lem : (number : ℕ) (tree : Tree) (child : ℕ) → Found tree child number (parent_from number tree child)
unfolding parent_from has_child
parent_from_lem number [] child = not_found (λ j t. absurd t)
parent_from_lem number (a ∷ rest) child = by (has_child child a.kind) refl (parent_from_lem (suc number) rest child)
  where
    on : has_child child a.kind ≡ false → (o : Option ℕ) → Found rest child (suc number) o → Found (a ∷ rest) child number o
    on e o (found j h) = let q : suc number + j ≡ number + suc j = omega arith in subst (λ (k : ℕ). Found (a ∷ rest) child number (some k)) (sym q) (found (suc j) h)
    on e o (not_found f) = not_found none_has
      where
        none_has : (j : ℕ) → T (has_child child (node_at (a ∷ rest) j).kind) → ⊥
        none_has zero t = subst T e t
        none_has (suc j) t = f j t

    by : (b : Bool) → has_child child a.kind ≡ b → Found rest child (suc number) (parent_from (suc number) rest child)
        → Found (a ∷ rest) child number (if b then some number else parent_from (suc number) rest child)
    by true e ih = let q : number + 0 ≡ number = omega arith in subst (λ (k : ℕ). Found (a ∷ rest) child number (some k)) q (found 0 (is_true e))
    by false e ih = on e (parent_from (suc number) rest child) ih

pub parent_has : (tree : Tree) (child p : ℕ) → parent_from 0 tree child ≡ some p → T (has_child child (node_at tree p).kind)
parent_has tree child p e = by (parent_from 0 tree child) (parent_from_lem 0 tree child) e
  where
    by : (o : Option ℕ) → Found tree child 0 o → o ≡ some p → T (has_child child (node_at tree p).kind)
    by o (found j h) q = let r : 0 + j ≡ p = cc in let z : j ≡ p = omega arith in subst (λ (k : ℕ). T (has_child child (node_at tree k).kind)) z h
    by o (not_found f) q = let z : ◌≡◌ {A = ℕ} 0 1 = cc in absurd (omega arith)

-- of any tree whose children are numbered above their parent, and have one parent each, as well-formed tables have
module _ (tree : Tree) (child_above : (p c : ℕ) → T (has_child c (node_at tree p).kind) → (p < c) × (c < length tree))
    (one_parent : (p q c : ℕ) → T (has_child c (node_at tree p).kind) → T (has_child c (node_at tree q).kind) → p ≡ q) (query : Trace) where
  -- the only parent is found
  pub parent_is : (parent child : ℕ) → T (has_child child (node_at tree parent).kind) → parent_from 0 tree child ≡ some parent
  parent_is parent child h = by (parent_from 0 tree child) (parent_from_lem 0 tree child)
    where
      by : (o : Option ℕ) → Found tree child 0 o → o ≡ some parent
      by o (found j g) = ap some (omega (arith, one_parent j parent child g h))
      by o (not_found f) = absurd (f parent h)

  pub root_has_none : parent_from 0 tree 0 ≡ none
  root_has_none = by (parent_from 0 tree 0) (parent_from_lem 0 tree 0)
    where
      by : (o : Option ℕ) → Found tree 0 0 o → o ≡ none
      by o (found j g) = absurd (omega (arith, (child_above j 0 g).0))
      by o (not_found f) = refl

  -- ---- fuel

  fuel_enough : (fuel more number : ℕ) → number < fuel → number < more → bound_from fuel tree query number ≡ bound_from more tree query number
  unfolding bound_from
  fuel_enough zero more number h k = absurd (omega arith)
  fuel_enough (suc fuel) zero number h k = absurd (omega arith)
  fuel_enough (suc fuel) (suc more) number h k = by (parent_from 0 tree number) refl (fuel_enough fuel more)
    where
      by : (o : Option ℕ) → parent_from 0 tree number ≡ o → ((p : ℕ) → p < fuel → p < more → bound_from fuel tree query p ≡ bound_from more tree query p)
          → max (own_bound query (node_at tree number)) (elim o [ none ↦ 0 | some parent ↦ bound_from fuel tree query parent ]) ≡ max
          (own_bound query (node_at tree number)) (elim o [ none ↦ 0 | some parent ↦ bound_from more tree query parent ])
      by none e ih = refl
      by (some p) e ih =
          let l : p < number = (child_above p number (parent_has tree number p e)).0 in
          rw (ih p (omega arith) (omega arith))

  bound_step : (fuel parent child : ℕ) → parent_from 0 tree child ≡ some parent → bound_from (suc fuel) tree query child ≡ max (own_bound query (node_at tree child))
      (bound_from fuel tree query parent)
  unfolding bound_from
  bound_step fuel parent child e = rw e

  -- "A node's bound is the greatest own bound from node 0 down to it": a child's is its own or its parent's
  pub child_bound : (parent child : ℕ) → T (has_child child (node_at tree parent).kind) → bound tree query child ≡ max (own_bound query (node_at tree child)) (bound tree query parent)
  child_bound parent child h =
      let k : (parent < child) × (child < length tree) = child_above parent child h in
      fuel_enough (length tree) (suc (length tree)) child k.1 (omega (arith, k.1)) ∙ bound_step (length tree) parent child (parent_is parent child h)

  -- .. and node 0's is its own
  pub root_bound : 0 < length tree → bound tree query 0 ≡ own_bound query (node_at tree 0)
  unfolding bound_from
  root_bound some_node = fuel_enough (length tree) (suc (length tree)) 0 some_node (omega arith) ∙ rw root_has_none (omega arith)

-- ---- at most the distance

module _ (n : ℕ) (stored : List Trace) (tree : Tree) (c : Containing n stored tree) (query : Trace) (all_n : (t : ℕ) → t < length stored → length (get_or stored t []) ≡ n) (lq : length query ≡ n)
  where
    pub own_at_most : (t k : ℕ) → Below tree t k → own_bound query (node_at tree k) ≤ distance query (get_or stored t [])
    own_at_most t k b = own_within n query (get_or stored t []) lq (all_n t (below_stored c.shape b)) (node_at tree k) (c.ranges t k b)
        (parted_rises (c.shape.fits k (below_inside c.shape b)).parted)

    from_at_most : (fuel t k : ℕ) → Below tree t k → bound_from fuel tree query k ≤ distance query (get_or stored t [])
    unfolding bound_from
    from_at_most zero t k b = omega arith
    from_at_most (suc fuel) t k b = omega (arith, own_at_most t k b, by (parent_from 0 tree k) refl (λ (p : ℕ) (a : Below tree t p). from_at_most fuel t p a))
      where
        by : (o : Option ℕ) → parent_from 0 tree k ≡ o
            → ((p : ℕ) → Below tree t p → bound_from fuel tree query p ≤ distance query (get_or stored t []))
            → elim o [ none ↦ 0 | some parent ↦ bound_from fuel tree query parent ] ≤ distance query (get_or stored t [])
        by none e ih = omega arith
        by (some p) e ih = ih p (of_child (parent_has tree k p e) b)

    -- "No node's bound exceeds the query's distance to a trace below it"
    pub bound_at_most : (number trace : ℕ) → Below tree trace number → bound tree query number ≤ distance query (get_or stored trace [])
    bound_at_most number trace b = from_at_most (length tree) trace number b
