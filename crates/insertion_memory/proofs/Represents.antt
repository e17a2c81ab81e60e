-- Nodes and links that stand for a tree are read as it: reading a leaf's list with any count above its numbers gives the list that the
-- links follow.
use Prim.Native.Nat.{ℕ, zero, suc, ◌≤◌, ◌<◌}
use mathlib.Core.Path.{◌≡◌, refl, sym, ◌∙◌, ap, subst}
use mathlib.Core.Logic.{◌⊎◌}
use mathlib.Core.List.{List, [], ◌∷◌, map}
use native.Mathlib.Omega.{arith}
use lib.ListN.{length, get_or, length-map}
use lib.IntN.{ℤ}
use Rattle.integer.specs.Words.{counting}
use Rattle.integer.proofs.Lists.{In, in_is, is_in_lem, in_nil, in_map, Up}
use Rattle.integer.proofs.Rows.{table_is}
use Rattle.dstree.specs.Measures.{Trace}
use Rattle.dstree.specs.Node.{Segment, Figure, by_sum, by_scatter, Test, Kind, leaf, inner, Node, node, Tree, node_at, ends, change_all}
use Rattle.dstree.specs.Adding.{widen_segment, widen}
use Rattle.dstree.specs.Matching.{numbers_in}
use Rattle.dstree.specs.Formed.{Fits, Kept}
use Rattle.dstree.proofs.Formed.{number_node, numbers_up}
use Rattle.dstree.proofs.Cuts.{ends_low}
use Rattle.tables.specs.Layout.{kind_place, first_place, right_place, run_first_place, run_last_place, threshold_place, head_places}
use Rattle.tables.specs.Tables.{record_of}
use Rattle.tables.specs.View.{small_of, value_at, small_at, segments_in, test_in, numbers_from, kind_in, node_in}
use Rattle.tables.specs.Walk.{Rising}
use Rattle.insertion_memory.specs.Records.{leaf_record, widen_record, inner_record}
use Rattle.insertion_memory.specs.Memory.{TreeTables}
pub use Rattle.insertion_memory.specs.Represents.{Means, m_leaf, m_inner, ReadsAs, Represents}
use Rattle.insertion_memory.proofs.ReadBack.{SmallEnds, leaf_kind, leaf_first, leaf_segments, leaf_length, widen_head}
use Rattle.insertion_memory.proofs.ReadBack.{widen_segments, widen_length, kind_number, inner_kind_lem, inner_left, inner_right}
use Rattle.insertion_memory.proofs.ReadBack.{inner_test, inner_segments, inner_length}
use Rattle.tables.proofs.Linked.{Linked, leaf_follows, leaf_followed, linked_same, link_rises}

-- ---- a record's kind

-- numbers below k
abbrev pub AllBelow : ℕ → List ℕ → Type 0
AllBelow k l = (t : ℕ) → In t l → t < k

-- it is read so, with the count k
pub means_kind : {links : List ℕ} {r : List ℤ} {kind : Kind} (k : ℕ) → Means links r kind → Up 0 (numbers_in kind) → AllBelow k (numbers_in kind) → kind_in links k r (small_at r kind_place) ≡ kind
unfolding numbers_in kind_in kind_number
means_kind {links} {r} k (m_leaf {x} {l} e q w) u low = rw (e, q) (ap leaf (leaf_followed k w u low))
means_kind {links} {r} k (m_inner {test} {left} {right} e q p s) u low = rw e (by test.figure q)
  where
    by : (f : Figure) → test_in r f ≡ test → kind_in links k r (kind_number f) ≡ inner test left right
    by by_sum q = rw (q, p, s)
    by by_scatter q = rw (q, p, s)

-- .. and what is read so, with a kind that the layout names, is
pub kind_means : (links : List ℕ) (r : List ℤ) (k v : ℕ) → small_at r kind_place ≡ v → v ≤ 2 → Up 0 (numbers_in (kind_in links k r v))
    → AllBelow k (numbers_in (kind_in links k r v)) → Means links r (kind_in links k r v)
unfolding numbers_in kind_in kind_number test_in numbers_from
kind_means links r k zero e h u low = m_leaf e refl (leaf_follows links k (small_at r first_place) u low)
kind_means links r k (suc zero) e h u low = m_inner e refl refl refl
kind_means links r k (suc (suc zero)) e h u low = m_inner e refl refl refl
kind_means links r k (suc (suc (suc v))) e h u low = absurd (omega arith)

pub kind_named : {links : List ℕ} {r : List ℤ} {kind : Kind} → Means links r kind → small_at r kind_place ≤ 2
unfolding kind_number
kind_named (m_leaf e q w) = omega arith
kind_named {links} {r} (m_inner {test} e q p s) = by test.figure e
  where
    by : (f : Figure) → small_at r kind_place ≡ kind_number f → small_at r kind_place ≤ 2
    by by_sum e = omega arith
    by by_scatter e = omega arith

-- links outside a leaf's list do not bear on it
means_same : {links links' : List ℕ} {r : List ℤ} {kind : Kind} → ((s : ℕ) → In s (numbers_in kind) → get_or links' s 0 ≡ get_or links s 0) → Means links r kind → Means links' r kind
unfolding numbers_in
means_same h (m_leaf e q w) = m_leaf e q (linked_same h w)
means_same h (m_inner e q p s) = m_inner e q p s

-- only the head bears on it
means_head : {links : List ℕ} {r r' : List ℤ} {kind : Kind} → ((p : ℕ) → p < head_places → value_at r' p ≡ value_at r p) → Means links r kind → Means links r' kind
unfolding test_in
means_head h (m_leaf e q w) = m_leaf (ap small_of (h kind_place (omega arith)) ∙ e) (ap small_of (h first_place (omega arith)) ∙ q) w
means_head {links} {r} {r'} h (m_inner {test} e q p s) =
    m_inner (ap small_of (h kind_place (omega arith)) ∙ e) (same test.figure ∙ q) (ap small_of (h first_place (omega arith)) ∙ p) (ap small_of (h right_place (omega arith)) ∙ s)
  where
    same : (f : Figure) → test_in r' f ≡ test_in r f
    same f = rw (h run_first_place (omega arith), h run_last_place (omega arith), h threshold_place (omega arith))

-- ---- a record as a node

pub reads_node : {links : List ℕ} {r : List ℤ} {a : Node} (k : ℕ) → ReadsAs links r a → Up 0 (numbers_in a.kind) → AllBelow k (numbers_in a.kind) → node_in links k r ≡ a
unfolding node_in
reads_node {links} {r} {a} k d u low = rw (d.segments, means_kind k d.kind u low)

pub reads_same : {links links' : List ℕ} {r : List ℤ} {a : Node} → ((s : ℕ) → In s (numbers_in a.kind) → get_or links' s 0 ≡ get_or links s 0) → ReadsAs links r a → ReadsAs links' r a
reads_same h d = record { size = d.size; segments = d.segments; kind = means_same h d.kind }

small_ends : {n : ℕ} {l : List Segment} → n ≤ 256 → Fits n (ends l) → SmallEnds l
small_ends h f s i = omega (arith, ends_low f (in_map (λ (a : Segment). a.end) i))

few_segments : {n : ℕ} (l : List Segment) → Fits n (ends l) → length l ≤ 16
few_segments l f = omega (arith, f.few, length-map l (λ (a : Segment). a.end))

module _ {n : ℕ} (narrow : n ≤ 256) where
  -- a record that was widened
  pub reads_widen : {links : List ℕ} {r : List ℤ} {a : Node} (x : Trace) → Fits n (ends a.segments) → ReadsAs links r a → ReadsAs links (widen_record x r) (widen x a)
  unfolding widen
  reads_widen {links} {r} {a} x f d =
      let g : Fits n (ends (segments_in r)) = subst (λ (l : List Segment). Fits n (ends l)) (sym d.segments) f in
      record {
        size = widen_length x r d.size (few_segments (segments_in r) g);
        segments = widen_segments x r d.size (small_ends narrow g) ∙ ap (λ (l : List Segment). change_all (widen_segment x) 1 l) d.segments;
        kind = means_head (widen_head x r d.size) d.kind;
      }

  -- a new leaf's
  pub reads_leaf : {links : List ℕ} {x : ℕ} {l : List ℕ} (segments : List Segment) → Fits n (ends segments) → x ≤ 65535
      → Linked links (x ∷ l) → ReadsAs links (leaf_record segments x) (node segments (leaf (x ∷ l)))
  reads_leaf {links} {x} {l} segments f h w = record {
    size = leaf_length segments x (few_segments segments f);
    segments = leaf_segments segments x (few_segments segments f) (small_ends narrow f);
    kind = m_leaf (leaf_kind segments x) (leaf_first segments x h) w;
  }

-- a leaf's that became inner
pub reads_inner : {links links' : List ℕ} {r : List ℤ} {a : Node} (test : Test) (left right : ℕ) → test.on.first ≤ 65535 → test.on.last ≤ 65535 → left ≤ 65535 → right ≤ 65535
    → ReadsAs links r a → ReadsAs links' (inner_record test left right r) (node a.segments (inner test left right))
reads_inner {r} test left right from to l g d = record {
  size = inner_length test left right r d.size;
  segments = inner_segments test left right r ∙ d.segments;
  kind = m_inner (inner_kind_lem test left right r) (inner_test test left right r from to) (inner_left test left right r l) (inner_right test left right r g);
}

-- ---- nodes and links as a tree

module _ {n c : ℕ} {nodes : List ℤ} {links : List ℕ} {k : ℕ} {h : TreeTables} {tree : Tree} (s : Represents n c nodes links k h tree) where
  low_at : (j : ℕ) → AllBelow k (numbers_in (node_at tree j).kind)
  low_at j t i = s.shape.numbers t j (in_is i)

  pub node_read : (j : ℕ) → j < length tree → node_in h.links k (record_of h.nodes j) ≡ node_at tree j
  node_read j g = reads_node k (s.reads j g) (numbers_up s.shape j) (low_at j)

  pub kind_read : (j : ℕ) → j < length tree → kind_in h.links k (record_of h.nodes j) (small_at (record_of h.nodes j) kind_place) ≡ (node_at tree j).kind
  kind_read j g = means_kind k (s.reads j g).kind (numbers_up s.shape j) (low_at j)

  -- read as tables are read
  pub tree_read : map (λ j. node_in h.links k (record_of h.nodes j)) (counting h.count 0) ≡ tree
  tree_read = table_is (λ j. node_in h.links k (record_of h.nodes j)) (node [] (leaf [])) tree h.count s.count node_read

  -- every stored trace's link ends its list or leads to a later stored trace
  pub links_rise : Rising h.links k
  unfolding numbers_in
  links_rise t g =
      let o : Kept tree t = s.shape.kept t g in
      by (node_at tree o.at).kind (s.reads o.at (number_node tree t o.at o.holds)).kind (numbers_up s.shape o.at)
      (low_at o.at) (is_in_lem t (numbers_in (node_at tree o.at).kind) o.holds)
    where
      by : {r : List ℤ} (kind : Kind) → Means h.links r kind → Up 0 (numbers_in kind) → AllBelow k (numbers_in kind)
          → In t (numbers_in kind)
          → (get_or h.links t 0 ≡ 0) ⊎ ((t < get_or h.links t 0) × (get_or h.links t 0 < k))
      by (leaf (x ∷ l)) (m_leaf e q w) u low i = link_rises w u low i
      by (inner test left right) (m_inner e q p s) u low i = absurd (in_nil i)
      by (leaf []) m u low i = elim m [ ]
