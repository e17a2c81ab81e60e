-- Tables that adding makes of empty ones hold exactly the tree of their traces, and are well formed: each adding stands for an insertion,
-- and the tree that insertions make is well formed by its laws.
use Prim.Native.Nat.{ℕ, suc, ◌+◌, ◌*◌, ◌-◌, ◌<◌, ◌≤◌}
use mathlib.Core.Path.{◌≡◌, refl, sym, ◌∙◌, ap, subst}
use mathlib.Core.Bool.{true}
use mathlib.Core.List.{List, [], ◌∷◌, ◌++◌, foldl, flatten, append_assoc, append-nil}
use native.Mathlib.Omega.{arith}
use lib.IntN.{pos}
use lib.ListN.{length, length-append}
use lib.Dec.{T, leb, leb→le, le→leb}
use Rattle.integer.specs.Words.{counting, every}
use Rattle.integer.proofs.Tests.{passed, passes}
use Rattle.integer.proofs.Lists.{In, in_append_left, in_append_right, first, from_every, every_of}
use Rattle.dstree.specs.Measures.{Trace, Measures, sample_limit, in_range, is_trace, is_library, samples_needed, records_needed, links_needed, work_needed}
use Rattle.dstree.specs.Node.{Tree}
use Rattle.dstree.specs.Adding.{insertion, grown, tree_of}
use Rattle.dstree.specs.WellFormed as abstract
use Rattle.dstree.proofs.Laws.{shape}
use Rattle.dstree.specs.Book.{Lent}
use Rattle.tables.specs.Layout.{control_fields, record_places}
use Rattle.tables.specs.Tables.{Tables, lent_of, measures_of, trace_count}
use Rattle.tables.specs.Answers.{opened}
use Rattle.tables.specs.Judge.{Room}
use Rattle.tables.proofs.Beginning.{fill_length}
use Rattle.tables.specs.View.{tree_in, traces_in, kinds_named, well_formed}
use Rattle.tables.proofs.Views.{traces_size}
use Rattle.insertion_memory.specs.Memory.{added_to}
pub use Rattle.tables.specs.Holds.{Holds}
use Rattle.tables.specs.Holds.{Long}
use Rattle.insertion_memory.proofs.Meaning.{AfterAdding, meaning, well_formed_after}

-- ---- a library with fewer traces

-- one trace more is inserted last
pub grown_more : (m : Measures) (stored : List Trace) (tree : Tree) (more : List Trace) (x : Trace) → grown m stored tree (more ++ (x ∷ [])) ≡ insertion m (stored ++ more) (grown m stored tree more) x
unfolding grown
grown_more m stored tree [] x = rw (append-nil stored)
grown_more m stored tree (y ∷ more) x = grown_more m (stored ++ (y ∷ [])) (insertion m stored tree y) more x ∙ ap
    (λ (l : List Trace). insertion m l (grown m (stored ++ (y ∷ [])) (insertion m stored tree y) more) x) (append_assoc stored (y ∷ []) more)

module _ (limit : ℕ) (m : Measures) (traces more : List Trace) (library : T (is_library limit m (traces ++ more))) where
  each : T (in_range m) × (T (leb (length (traces ++ more)) m.capacity) × T (every (is_trace limit m.n) (traces ++ more)))
  unfolding is_library
  each = passed (in_range m) (leb (length (traces ++ more)) m.capacity ∷ every (is_trace limit m.n) (traces ++ more) ∷ []) library

  pub room : length traces + length more ≤ m.capacity
  room = omega (arith, leb→le (length (traces ++ more)) m.capacity each.1.0, length-append traces more)

  pub is_trace_lem : {x : Trace} → In x more → T (is_trace limit m.n x)
  is_trace_lem i = from_every (is_trace limit m.n) (traces ++ more) each.1.1 (in_append_right traces i)

-- ---- what made tables hold

-- as many traces as the control record counts
pub count_is : (t : Tables) → trace_count t ≡ length (traces_in t)
count_is t = sym (traces_size t)

-- tables stay long enough
pub long_after : (t : Tables) (x : Trace) → Long t → AfterAdding t x → Long (added_to t x)
long_after t x long a =
    let lengths : lent_of (added_to t x) ≡ lent_of t = a.lengths_stay in
    record {
      control_long = subst (λ (l : Lent). control_fields ≤ l.control) (sym lengths) long.control_long;
      samples_long = subst (λ (k : Measures). samples_needed k ≤ length (added_to t x).samples) (sym a.measures_stay)
          (subst (λ (l : Lent). samples_needed (measures_of t) ≤ l.samples) (sym lengths) long.samples_long);
      nodes_long = subst (λ (k : Measures). records_needed k * record_places ≤ length (added_to t x).nodes) (sym a.measures_stay)
          (subst (λ (l : Lent). records_needed (measures_of t) * record_places ≤ l.nodes) (sym lengths) long.nodes_long);
      links_long = subst (λ (k : Measures). links_needed k ≤ length (added_to t x).links) (sym a.measures_stay)
          (subst (λ (l : Lent). links_needed (measures_of t) ≤ l.links) (sym lengths) long.links_long);
    }

module _ (m : Measures) where
  pub shorter : (traces more : List Trace) → T (is_library sample_limit m (traces ++ more)) → T (is_library sample_limit m traces)
  unfolding is_library
  shorter traces more library =
      let p = each sample_limit m traces more library in
      passes (in_range m) (leb (length traces) m.capacity ∷ every (is_trace sample_limit m.n) traces ∷ []) (
        p.0,
        (
          le→leb (length traces) m.capacity (omega (arith, room sample_limit m traces more library)),
          every_of
              (is_trace sample_limit m.n) traces (λ x i. from_every (is_trace sample_limit m.n) (traces ++ more) p.1.1 (in_append_left more i)),
        ),
      )

  -- tables that hold all but the last of a library's traces take that one: it has n samples within the limits, and there is room
  pub takes_more : (t : Tables) (traces : List Trace) (x : Trace) → Holds t m traces → T (is_library sample_limit m (traces ++ (x ∷ [])))
      → T (is_trace sample_limit (measures_of t).n x) × (trace_count t < (measures_of t).capacity)
  takes_more t traces x h library =
      let counted : trace_count t ≡ length traces = count_is t ∙ ap length h.traces_are in (
        subst (λ (k : Measures). T (is_trace sample_limit k.n x)) (sym h.measures_are) (is_trace_lem sample_limit m traces (x ∷ []) library first),
        omega (arith, counted, room sample_limit m traces (x ∷ []) library, ap (λ (k : Measures). k.capacity) h.measures_are),
      )

  -- an adding to tables that hold some traces leaves tables that hold one more
  pub holds_more : (t : Tables) (traces : List Trace) (x : Trace) → Holds t m traces → T (is_library sample_limit m (traces ++ (x ∷ []))) → Holds (added_to t x) m (traces ++ (x ∷ []))
  holds_more t traces x h library = record {
    formed = well_formed_after t x h.formed h.long is less
        (subst (λ (tree : Tree). T (abstract.well_formed_tree sample_limit (measures_of t) (suc (trace_count t)) tree))
        (sym new_tree) new_formed);
    long = long_after t x h.long a;
    measures_are = a.measures_stay ∙ h.measures_are;
    traces_are = a.traces ∙ ap (λ (l : List Trace). l ++ (x ∷ [])) h.traces_are;
    tree_is = a.tree ∙ new_tree;
  }
    where
      is : T (is_trace sample_limit (measures_of t).n x)
      is = (takes_more t traces x h library).0

      counted : trace_count t ≡ length traces
      counted = count_is t ∙ ap length h.traces_are

      less : trace_count t < (measures_of t).capacity
      less = (takes_more t traces x h library).1

      a : AfterAdding t x
      a = meaning t x h.formed h.long is less

      new_tree : insertion (measures_of t) (traces_in t) (tree_in t) x ≡ tree_of m (traces ++ (x ∷ []))
      new_tree = by (measures_of t) (traces_in t) (tree_in t) h.measures_are h.traces_are h.tree_is
        where
          by : (k : Measures) (stored : List Trace) (tree : Tree) → k ≡ m → stored ≡ traces → tree ≡ tree_of m traces → insertion k stored tree x ≡ tree_of m (traces ++ (x ∷ []))
          by k stored tree p q r = rw (p, q, r) (sym (grown_more m [] [] traces x))

      new_formed : T (abstract.well_formed_tree sample_limit (measures_of t) (suc (trace_count t)) (tree_of m (traces ++ (x ∷ []))))
      new_formed =
          let e : suc (trace_count t) ≡ length (traces ++ (x ∷ [])) = omega (arith, counted, length-append traces (x ∷ [])) in
          rw (h.measures_are, e) (shape sample_limit m (traces ++ (x ∷ [])) library).well_formed_lem

  -- addings in order, to tables that hold some traces
  pub holds_all : (t : Tables) (traces more : List Trace) → Holds t m traces → T (is_library sample_limit m (traces ++ more)) → Holds (foldl added_to t more) m (traces ++ more)
  holds_all t traces [] h library = subst (Holds t m) (sym (append-nil traces)) h
  holds_all t traces (x ∷ more) h library =
      let e : traces ++ (x ∷ []) ++ more ≡ traces ++ (x ∷ more) = append_assoc traces (x ∷ []) more in
      let all : T (is_library sample_limit m (traces ++ (x ∷ []) ++ more)) = subst (λ (l : List Trace). T (is_library sample_limit m l)) (sym e) library in
      subst (Holds (foldl added_to (added_to t x) more) m) e (holds_all (added_to t x) (traces ++ (x ∷ [])) more (holds_more t traces x h (shorter (traces ++ (x ∷ [])) more all)) all)

-- ---- from an opening on

module _ (t : Tables) (m : Measures) (range : T (in_range m)) (enough : Room (lent_of t) m) where
  pub holds_none : Holds (opened t m) m []
  unfolding opened well_formed kinds_named tree_in traces_in counting every abstract.well_formed_tree abstract.every_node abstract.child_once
      abstract.in_one_leaf grown samples_needed records_needed links_needed work_needed flatten
  holds_none = record {
    formed = passes (in_range m) (leb 0 m.capacity ∷ true ∷ true ∷ true ∷ true ∷ []) (range, (le→leb 0 m.capacity (omega arith), (tt, (tt, (tt, tt)))));
    long = record {
      control_long = omega (arith, enough.long.control_long);
      samples_long = subst (λ (k : ℕ). m.capacity * m.n ≤ k) (sym (fill_length (m.capacity * m.n) (pos 0) t.samples enough.long.samples_long)) enough.long.samples_long;
      nodes_long = subst (λ (k : ℕ). (2 * m.capacity - 1) * record_places ≤ k)
          (sym (fill_length ((2 * m.capacity - 1) * record_places) (pos 0) t.nodes enough.long.nodes_long)) enough.long.nodes_long;
      links_long = subst (λ (k : ℕ). m.capacity ≤ k) (sym (fill_length {A = ℕ} m.capacity 0 t.links enough.long.links_long)) enough.long.links_long;
    };
    measures_are = refl;
    traces_are = refl;
    tree_is = refl;
  }

  -- demand 2's sentence on the tree: a library made from an empty one by opening and adding
  pub made_holds : (traces : List Trace) → T (is_library sample_limit m traces) → Holds (foldl added_to (opened t m) traces) m traces
  made_holds traces library = holds_all m (opened t m) [] traces holds_none library
