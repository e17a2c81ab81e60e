-- No trace below a node is farther from the query than the node's upper figure: segment by segment (`segment`'s law), then up the path,
-- below each node of which the trace is too. Right ends part all n samples, so that no sample is left out of the total.
-- And a node's upper figure is the smaller of its own and its parent's: the definition's fuel is enough.
use Prim.Native.Nat.{ℕ, zero, suc, ◌+◌, ◌-◌, ◌≤◌, ◌<◌, min}
use mathlib.Core.Path.{◌≡◌, refl, sym, ◌∙◌}
use mathlib.Core.Option.{Option, none, some}
use mathlib.Core.List.{List, [], ◌∷◌}
use native.Mathlib.Omega.{arith}
use lib.ListN.{length, get_or, take, drop, drop_of_length-le}
use lib.Seq.{drop-drop}
use lib.Dec.{T}
use Rattle.segment.specs.Figures.{distance}
use Rattle.segment.proofs.Sums.{distance_cut}
use Rattle.segment.proofs.Upper.{segment_upper_lem}
use Rattle.dstree.specs.Measures.{Trace}
use Rattle.dstree.specs.Figures.{Run, run, width, samples_on}
use Rattle.dstree.specs.Node.{Segment, Node, Tree, node_at, ends, total_over}
use Rattle.dstree.specs.Matching.{has_child, parent_from}
use Rattle.dstree.specs.Claims.{Below, of_child}
use Rattle.dstree.specs.Formed.{Parted, p_last, p_more, RunIn}
use Rattle.dstree.specs.Bands.{upper_on, own_upper, upper_from, upper}
use Rattle.dstree.proofs.Ranges.{CoveredOn, Covered, covered_none, covered_more}
use Rattle.dstree.proofs.Below.{below_stored, below_inside}
use Rattle.dstree.proofs.Bounds.{samples_are, samples_length, parent_has, parent_is, root_has_none}
use Rattle.dstree.proofs.Containing.{Containing}

-- the distance on a segment is at most its term
term_at_least : (query y : Trace) (on : Run) (s : Segment) → CoveredOn y on s → length (samples_on on query) ≡ width on
    → length (samples_on on y) ≡ width on → 0 < width on → distance (samples_on on query) (samples_on on y) ≤ upper_on query on s
unfolding upper_on
term_at_least query y on s h lq ly w =
    segment_upper_lem (record {
      width = width on;
      least_sum = s.least_sum;
      greatest_sum = s.greatest_sum;
      least_scatter = s.least_scatter;
      greatest_scatter = s.greatest_scatter;
    }) (samples_on on query) (samples_on on y) (lq ∙ sym ly)
    (record { width_is = ly; sum_above = h.sum_low; sum_below = h.sum_high; scatter_above = h.scatter_low; scatter_below = h.scatter_high }) w

-- the first of some right ends, and what they part behind it
data Ahead (n from : ℕ) : List ℕ → Type 0 where
  is_last : {e : ℕ} → from ≤ e → e ≡ n → Ahead n from (e ∷ [])
  is_more : {e : ℕ} {rest : List ℕ} → from ≤ e → e ≤ n → Parted n (suc e) rest → Ahead n from (e ∷ rest)

parted_low : {n from : ℕ} {l : List ℕ} → Parted n from l → from ≤ n
parted_low (p_last h) = h
parted_low (p_more h p) = omega (arith, parted_low p)

-- n samples, from some one on, are one segment or more
parts_some : {n from : ℕ} → Parted n from [] → ⊥
parts_some p = elim p [ ]

ahead : {n from : ℕ} {l : List ℕ} → Parted n from l → Ahead n from l
ahead (p_last h) = is_last h refl
ahead (p_more h p) = is_more h (omega (arith, parted_low p)) p

module _ (n : ℕ) (query y : Trace) (lq : length query ≡ n) (ly : length y ≡ n) where
  -- one segment, from sample f + 1 to e
  one_at_least : (f : ℕ) (s : Segment) → CoveredOn y (run (suc f) s.end) s → suc f ≤ s.end → s.end ≤ n
      → distance (take (suc s.end - suc f) (drop f query)) (take (suc s.end - suc f) (drop f y)) ≤ upper_on query (run (suc f) s.end) s
  one_at_least f s h a b =
      let i : RunIn n (run (suc f) s.end) = record { from_1 = omega arith; rises = a; to_n = b } in
      rw (samples_are f s.end query, samples_are f s.end y) at
      (term_at_least query y (run (suc f) s.end) s h (samples_length (run (suc f) s.end) query i lq)
      (samples_length (run (suc f) s.end) y i ly) (omega arith))

  -- no sample is behind the last
  none_behind : (k : ℕ) → n ≤ k → distance (drop k query) (drop k y) ≡ 0
  unfolding distance
  none_behind k h = let e : drop k query ≡ [] = drop_of_length-le query {i = k} (omega arith) in rw e

  parts_at_least : (f : ℕ) {l : List Segment} → Covered y (suc f) l → Parted n (suc f) (ends l)
      → distance (drop f query) (drop f y) ≤ total_over (upper_on query) (suc f) l
  unfolding total_over
  parts_at_least f covered_none p = absurd (parts_some p)
  parts_at_least f (covered_more {s} {rest} h w) p = by (ends rest) refl (ahead p) (λ q. parts_at_least s.end w q)
    where
      by : (es : List ℕ) → ends rest ≡ es → Ahead n (suc f) (s.end ∷ es)
          → (Parted n (suc s.end) (ends rest) → distance (drop s.end query) (drop s.end y) ≤ total_over (upper_on query) (suc s.end) rest)
          → distance (drop f query) (drop f y) ≤ upper_on query (run (suc f) s.end) s + total_over (upper_on query) (suc s.end) rest
      by es e (is_last a b) ih =
          let d : ℕ = suc s.end - suc f in
          let g : f + d ≡ s.end = omega arith in
          let z : distance (drop d (drop f query)) (drop d (drop f y)) ≡ 0 =
          rw (drop-drop d f query, drop-drop d f y, g) (none_behind s.end (omega arith)) in
          omega (arith, distance_cut d (drop f query) (drop f y), one_at_least f s h a (omega arith), z)
      by es e (is_more a b q) ih =
          let d : ℕ = suc s.end - suc f in
          let g : f + d ≡ s.end = omega arith in
          let z : distance (drop d (drop f query)) (drop d (drop f y)) ≤ total_over (upper_on query) (suc s.end) rest =
          rw (drop-drop d f query, drop-drop d f y, g) (ih (rw e q)) in
          omega (arith, distance_cut d (drop f query) (drop f y), one_at_least f s h a b, z)

  own_within : (a : Node) → Covered y 1 a.segments → Parted n 1 (ends a.segments) → distance query y ≤ own_upper query a
  unfolding own_upper
  own_within a w p = parts_at_least 0 w p

-- ---- the smallest on the path

-- of any tree whose children are numbered above their parent, and have one parent each, as well-formed tables have
module _ (tree : Tree) (child_above : (p c : ℕ) → T (has_child c (node_at tree p).kind) → (p < c) × (c < length tree))
    (one_parent : (p q c : ℕ) → T (has_child c (node_at tree p).kind) → T (has_child c (node_at tree q).kind) → p ≡ q) (query : Trace) where
  -- the definition's fuel is enough: any above a node's number gives its upper figure
  fuel_enough : (fuel more number : ℕ) → number < fuel → number < more → upper_from fuel tree query number ≡ upper_from more tree query number
  unfolding upper_from
  fuel_enough zero more number h k = absurd (omega arith)
  fuel_enough (suc fuel) zero number h k = absurd (omega arith)
  fuel_enough (suc fuel) (suc more) number h k = by (parent_from 0 tree number) refl (fuel_enough fuel more)
    where
      by : (o : Option ℕ) → parent_from 0 tree number ≡ o
          → ((p : ℕ) → p < fuel → p < more → upper_from fuel tree query p ≡ upper_from more tree query p)
          → min (own_upper query (node_at tree number))
          (elim o [ none ↦ own_upper query (node_at tree number) | some parent ↦ upper_from fuel tree query parent ]) ≡ min
          (own_upper query (node_at tree number))
          (elim o [ none ↦ own_upper query (node_at tree number) | some parent ↦ upper_from more tree query parent ])
      by none e ih = refl
      by (some p) e ih =
          let l : p < number = (child_above p number (parent_has tree number p e)).0 in
          rw (ih p (omega arith) (omega arith))

  upper_step : (fuel parent child : ℕ) → parent_from 0 tree child ≡ some parent
      → upper_from (suc fuel) tree query child ≡ min (own_upper query (node_at tree child)) (upper_from fuel tree query parent)
  unfolding upper_from
  upper_step fuel parent child e = rw e

  -- a child's is its own or its parent's
  pub child_upper : (parent child : ℕ) → T (has_child child (node_at tree parent).kind)
      → upper tree query child ≡ min (own_upper query (node_at tree child)) (upper tree query parent)
  child_upper parent child h =
      let k : (parent < child) × (child < length tree) = child_above parent child h in
      fuel_enough (length tree) (suc (length tree)) child k.1 (omega (arith, k.1))
      ∙ upper_step (length tree) parent child (parent_is tree child_above one_parent query parent child h)

  -- .. and node 0's is its own
  pub root_upper : 0 < length tree → upper tree query 0 ≡ own_upper query (node_at tree 0)
  unfolding upper_from
  root_upper some_node =
      fuel_enough (length tree) (suc (length tree)) 0 some_node (omega arith) ∙ rw (root_has_none tree child_above one_parent query) (omega arith)

-- ---- at least the distance

module _ (n : ℕ) (stored : List Trace) (tree : Tree) (c : Containing n stored tree) (query : Trace)
    (all_n : (t : ℕ) → t < length stored → length (get_or stored t []) ≡ n) (lq : length query ≡ n) where
  own_at_least : (t k : ℕ) → Below tree t k → distance query (get_or stored t []) ≤ own_upper query (node_at tree k)
  own_at_least t k b =
      own_within n query (get_or stored t []) lq (all_n t (below_stored c.shape b)) (node_at tree k) (c.ranges t k b)
      (c.shape.fits k (below_inside c.shape b)).parted

  from_at_least : (fuel t k : ℕ) → Below tree t k → distance query (get_or stored t []) ≤ upper_from fuel tree query k
  unfolding upper_from
  from_at_least zero t k b = own_at_least t k b
  from_at_least (suc fuel) t k b =
      omega (arith, own_at_least t k b, by (parent_from 0 tree k) refl (λ (p : ℕ) (a : Below tree t p). from_at_least fuel t p a))
    where
      by : (o : Option ℕ) → parent_from 0 tree k ≡ o
          → ((p : ℕ) → Below tree t p → distance query (get_or stored t []) ≤ upper_from fuel tree query p)
          → distance query (get_or stored t [])
          ≤ elim o [ none ↦ own_upper query (node_at tree k) | some parent ↦ upper_from fuel tree query parent ]
      by none e ih = own_at_least t k b
      by (some p) e ih = ih p (of_child (parent_has tree k p e) b)

  -- no trace below a node is farther than its upper figure
  pub upper_at_least : (number trace : ℕ) → Below tree trace number → distance query (get_or stored trace []) ≤ upper tree query number
  upper_at_least number trace b = from_at_least (length tree) trace number b
