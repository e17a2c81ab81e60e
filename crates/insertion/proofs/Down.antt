-- The way down by the node table: one step of it, that it is the way of the tree which the tables stand for, and what code that goes down
-- knows at each node (`GoingDown`). A child is numbered above its parent, so that a node is met once: records met later are as they were.
use Rattle.std.specs.Prelude.{if◌then◌else◌}
use mathlib.Core.Path.{◌≡◌, refl, sym, ap, subst, ◌∙◌}
use mathlib.Core.Option.{none, some}
use mathlib.Core.List.{List, [], ◌∷◌, map}
use Prim.Native.Nat.{ℕ, zero, suc, ◌+◌, ◌*◌, ◌-◌, ◌≤◌, ◌<◌}
use native.Mathlib.Omega.{arith}
use lib.IntN.{ℤ}
use lib.ListN.{length}
use lib.Dec.{eqb}
use Rattle.integer.specs.Words.{counting, last_of}
use Rattle.dstree.specs.Measures.{Trace}
use Rattle.dstree.specs.Node.{Node, Tree, sends_left, node_at}
use Rattle.dstree.specs.Adding.{next_node, way_from, way}
use Rattle.dstree.proofs.Change.{way_stops, way_goes, last_behind, way_alike}
use Rattle.tables.specs.Layout.{kind_place, segments_place, first_place, right_place, record_places}
use Rattle.tables.specs.Tables.{Tables, trace_count, node_count, record_of}
use Rattle.tables.specs.View.{small_at, test_in, kind_in, node_in, tree_in, shape_in}
use Rattle.tables.specs.Runs.{figure_by}
use Rattle.tables.proofs.Views.{shape_size, shape_node, tree_size}
use Rattle.tables.proofs.Frame.{with_length, record_other, record_length}
use Rattle.insertion_memory.specs.Records.{widen_record}
use Rattle.insertion_memory.specs.Memory.{on_record, widened_on}
use Rattle.insertion.specs.Widening.{Readable}
use Rattle.insertion.specs.Way.{next_in, way_in, Descendable}
use Rattle.insertion.proofs.Widened.{partly_all, partly_length}

-- ---- the child by the kind

-- the child at an inner node
abbrev pub child_by : List ℤ → Trace → ℕ → ℕ
child_by r x kind = if sends_left (test_in r (figure_by (eqb kind 2))) x then small_at r first_place else small_at r right_place

pub child_leaf : (r : List ℤ) (x : Trace) (kind : ℕ) → kind ≡ 0 → next_node (kind_in [] 0 r kind) x ≡ none
unfolding kind_in next_node
child_leaf r x zero e = refl
child_leaf r x (suc kind) e = absurd (omega arith)

pub child_inner : (r : List ℤ) (x : Trace) (kind : ℕ) → kind ≤ 2 → (kind ≡ 0 → ⊥)
    → next_node (kind_in [] 0 r kind) x ≡ some (child_by r x kind)
unfolding kind_in next_node
child_inner r x zero h f = absurd (f refl)
child_inner r x (suc zero) h f = refl
child_inner r x (suc (suc zero)) h f = refl
child_inner r x (suc (suc (suc kind))) h f = absurd (omega arith)

-- ---- by the tree that the tables stand for: where a trace goes on, no leaf's list is looked at

module _ (t : Tables) (x : Trace) where
  kind_same : (r : List ℤ) (kind : ℕ) → next_node (kind_in [] 0 r kind) x ≡ next_node (kind_in t.links (trace_count t) r kind) x
  unfolding next_node kind_in
  kind_same r zero = refl
  kind_same r (suc zero) = refl
  kind_same r (suc (suc zero)) = refl
  kind_same r (suc (suc (suc kind))) = refl

  list_same : (l : List ℕ) (j : ℕ) → next_node (node_at (map (λ i. node_in [] 0 (record_of t.nodes i)) l) j).kind x
      ≡ next_node (node_at (map (λ i. node_in t.links (trace_count t) (record_of t.nodes i)) l) j).kind x
  unfolding node_in
  list_same [] j = refl
  list_same (i ∷ l) zero = kind_same (record_of t.nodes i) (small_at (record_of t.nodes i) kind_place)
  list_same (i ∷ l) (suc j) = list_same l j

  pub next_same : (j : ℕ) → next_node (node_at (shape_in t.nodes (node_count t)) j).kind x ≡ next_node (node_at (tree_in t) j).kind x
  unfolding tree_in shape_in
  next_same j = list_same (counting (node_count t) 0) j

  -- the nodes that code meets are those that document 01 says
  pub way_same : way_in t.nodes (node_count t) x ≡ way (tree_in t) x
  way_same =
      way_alike (shape_in t.nodes (node_count t)) (tree_in t) x next_same (length (shape_in t.nodes (node_count t))) 0
      ∙ ap (λ (fuel : ℕ). way_from fuel (tree_in t) x 0) (shape_size t.nodes (node_count t) ∙ sym (tree_size t))

-- ---- going down

widen_length : (x : Trace) (r : List ℤ) {n : ℕ} → Readable r n → length (widen_record x r) ≡ length r
widen_length x r ok = ap length (sym (partly_all x r)) ∙ partly_length x r (small_at r segments_place) (omega (arith, ok.few, ok.size))

-- the nodes before `at` on the way are widened, every record from `at` on is as it was, and what is left to do comes to the whole
pub record GoingDown (nodes : List ℤ) (count : ℕ) (x : Trace) (now : List ℤ) (at : ℕ) : Type 0 where
  pub inside : at < count
  pub same_length : length now ≡ length nodes
  pub same : (j : ℕ) → at ≤ j → j < count → record_of now j ≡ record_of nodes j
  pub fuel : ℕ
  pub enough : count ≤ fuel + at
  pub left : widened_on x now (way_from fuel (shape_in nodes count) x at) ≡ widened_on x nodes (way_in nodes count x)
  pub last : last_of (way_from fuel (shape_in nodes count) x at) ≡ last_of (way_in nodes count x)

module _ {nodes : List ℤ} {count n : ℕ} (ok : Descendable nodes count n) (x : Trace) where
  abbrev tree : Tree
  tree = shape_in nodes count

  pub going_starts : GoingDown nodes count x nodes 0
  going_starts = record {
    inside = ok.some_node;
    same_length = refl;
    same = λ j a b. refl;
    fuel = length tree;
    enough = omega (arith, shape_size nodes count);
    left = refl;
    last = refl;
  }

  next_at : (at : ℕ) → at < count → next_node (node_at tree at).kind x ≡ next_in (record_of nodes at) x
  unfolding node_in
  next_at at h = ap (λ (a : Node). next_node a.kind x) (shape_node nodes count at h)

  module _ {now : List ℤ} {at : ℕ} (g : GoingDown nodes count x now at) where
    pub fits : at * record_places + record_places ≤ length now
    fits = omega (arith, g.inside, g.same_length, ok.room)

    pub same_record : record_of now at ≡ record_of nodes at
    same_record = g.same at (omega arith) g.inside

    widened_size : length (widen_record x (record_of now at)) ≡ record_places
    widened_size = widen_length x (record_of now at) (subst (λ (r : List ℤ). Readable r n) (sym same_record) (ok.readable at g.inside)) ∙ record_length now at fits

    pub widened_length : length (on_record (widen_record x) now at) ≡ length nodes
    widened_length = with_length now at (widen_record x (record_of now at)) fits widened_size ∙ g.same_length

    some_fuel : 0 < g.fuel
    some_fuel = omega (arith, g.inside, g.enough)

    -- the answer of the code at `at`
    next_is : next_node (node_at tree at).kind x ≡ next_in (record_of now at) x
    next_is = next_at at g.inside ∙ sym (ap (λ (r : List ℤ). next_in r x) same_record)

    -- a leaf: the way ends
    pub ended : next_in (record_of now at) x ≡ none
        → (at ≡ last_of (way_in nodes count x)) × (on_record (widen_record x) now at ≡ widened_on x nodes (way_in nodes count x))
    ended e =
        let stop = way_stops tree x g.fuel at some_fuel (next_is ∙ e) in
        (sym (ap last_of stop) ∙ g.last, sym (ap (widened_on x now) stop) ∙ g.left)

    -- an inner node: on to a child
    module _ {next : ℕ} (e : next_in (record_of now at) x ≡ some next) where
      pub falls : (at < next) × (next < count)
      falls = ok.child x at next (next_is ∙ e)

      pub goes_on : GoingDown nodes count x (on_record (widen_record x) now at) next
      goes_on =
          let b = falls in
          let goes = way_goes tree x g.fuel at next some_fuel (next_is ∙ e) in
          record {
            inside = b.1;
            same_length = widened_length;
            same = λ j h l. record_other now at (widen_record x (record_of now at)) fits widened_size j (λ z. omega (arith, b.0))
                (omega (arith, l, g.same_length, ok.room))
                ∙ g.same j (omega (arith, b.0)) l;
            fuel = g.fuel - 1;
            enough = omega (arith, g.enough, b.0);
            left = sym (ap (widened_on x now) goes) ∙ g.left;
            last = sym (last_behind tree x (g.fuel - 1) at next (omega (arith, g.enough, b))) ∙ (sym (ap last_of goes) ∙ g.last);
          }
