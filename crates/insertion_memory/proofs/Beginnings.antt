-- What tables hold is read from the needed places alone: tables that agree on these hold the same. So a memory holds what its first places
-- do, and these what the memory does where they are long enough.
use Prim.Native.Nat.{ℕ, suc, ◌+◌, ◌*◌, ◌-◌, ◌≤◌, ◌<◌}
use mathlib.Core.Path.{◌≡◌, refl, sym, ◌∙◌, ap, subst}
use mathlib.Core.List.{List, [], ◌++◌, map}
use native.Mathlib.Nat.{mul-le-mul_right}
use native.Mathlib.Omega.{arith}
use lib.IntN.{ℤ}
use lib.ListN.{length, get_or, take, drop, length-append, length-drop, get_or-append}
use lib.Seq.{take-append-le, drop-append-le}
use lib.Dec.{T, leb, le→leb}
use mir.Facts.{yes_and, and_yes}
use Rattle.integer.specs.Words.{counting}
use Rattle.integer.proofs.Lists.{in_is, every_of, from_counting, map_agree}
use Rattle.integer.proofs.Rows.{table_is}
use Rattle.segment.specs.Stored.{samples_of}
use Rattle.dstree.specs.Measures.{Trace, Measures, sample_limit, samples_needed, records_needed, links_needed}
use Rattle.dstree.specs.Node.{leaf, node, Tree, node_at}
use Rattle.dstree.specs.WellFormed as abstract
use Rattle.tables.specs.Layout.{n_place, capacity_place, leaf_size_place, trace_count_place, node_count_place, control_fields, kind_place, record_places}
use Rattle.tables.specs.Tables.{Tables, field, measures_of, trace_count, node_count, record_of}
use Rattle.tables.specs.View.{small_at, node_in, tree_in, trace_in, traces_in, kinds_named, well_formed}
use Rattle.tables.specs.Beginning.{Begins}
use Rattle.tables.proofs.Frame.{part_of}
use Rattle.tables.proofs.Beginning.{extended, rest_of, begins_is}
use Rattle.insertion_memory.specs.Memory.{TreeTables, tree_tables}
use Rattle.dstree.proofs.Nodes.{nodes_most}
use Rattle.insertion_memory.proofs.Placing.{record_inside}
use Rattle.insertion_memory.proofs.Represents.{ReadsAs, reads_same, kind_named, Represents, node_read}
use Rattle.insertion_memory.proofs.FromTables.{Long, facts, node_count_lem, tables_stand}
use Rattle.insertion_memory.proofs.Made.{Holds}

-- ---- nodes and links that agree on the needed places

-- stand for the same tree
pub represents_like : {n c k : ℕ} {nodes : List ℤ} {links : List ℕ} {h : TreeTables} {tree : Tree} (h' : TreeTables) → Represents n c nodes links k h tree → h'.count ≡ h.count
    → ((j : ℕ) → j < 2 * c - 1 → record_of h'.nodes j ≡ record_of h.nodes j) → ((t : ℕ) → t < c → get_or h'.links t 0 ≡ get_or h.links t 0)
    → Represents n c h'.nodes h'.links k h' tree
represents_like {c} {tree} h' s count records same = record {
  few = s.few;
  count = count ∙ s.count;
  reads = λ j g. subst (λ (r : List ℤ). ReadsAs h'.links r (node_at tree j)) (sym (records j (omega (arith, g, nodes_most s.shape, s.few))))
      (reads_same (λ t i. same t (omega (arith, s.shape.numbers t j (in_is i), s.few))) (s.reads j g));
  shape = s.shape;
  nodes_size = refl;
  nodes_behind = refl;
  links_size = refl;
  links_behind = refl;
}

-- ---- tables that agree on the needed places

pub record Agree (t s : Tables) : Type 0 where
  pub control_agrees : (i : ℕ) → i < control_fields → field s.control i ≡ field t.control i
  pub samples_agree : (i : ℕ) → i < (measures_of t).capacity → trace_in s.samples (measures_of t).n i ≡ trace_in t.samples (measures_of t).n i
  pub nodes_agree : (j : ℕ) → j < 2 * (measures_of t).capacity - 1 → record_of s.nodes j ≡ record_of t.nodes j
  pub links_agree : (i : ℕ) → i < (measures_of t).capacity → get_or s.links i 0 ≡ get_or t.links i 0

module _ {t s : Tables} (a : Agree t s) where
  pub measures_same : measures_of s ≡ measures_of t
  measures_same = rw (a.control_agrees n_place (omega arith), a.control_agrees capacity_place (omega arith), a.control_agrees leaf_size_place (omega arith))

  pub traces_counted : trace_count s ≡ trace_count t
  traces_counted = a.control_agrees trace_count_place (omega arith)

  pub nodes_counted : node_count s ≡ node_count t
  nodes_counted = a.control_agrees node_count_place (omega arith)

  module _ (w : T (well_formed t)) (long : Long t) where
    -- the nodes and links of s, with the same counts, stand for the tree of t
    like : 0 < length (tree_in t) → Represents (measures_of t).n (measures_of t).capacity s.nodes s.links (trace_count t) (tree_tables s.nodes s.links (node_count t)) (tree_in t)
    like some = represents_like (tree_tables s.nodes s.links (node_count t)) (tables_stand t w long) refl a.nodes_agree a.links_agree

    pub tree_same : tree_in s ≡ tree_in t
    unfolding tree_in
    tree_same =
        ap (λ (k : ℕ). map (λ j. node_in s.links k (record_of s.nodes j)) (counting (node_count s) 0)) traces_counted
        ∙ ap (λ (m : ℕ). map (λ j. node_in s.links (trace_count t) (record_of s.nodes j)) (counting m 0)) nodes_counted
        ∙ table_is (λ j. node_in s.links (trace_count t) (record_of s.nodes j)) (node [] (leaf [])) (tree_in t) (node_count t) (node_count_lem t w) (λ j g. node_read (like (omega arith)) j g)

    pub traces_same : traces_in s ≡ traces_in t
    unfolding traces_in
    traces_same =
        ap (λ (n : ℕ). map (trace_in s.samples n) (counting (trace_count s) 0)) (ap (λ (m : Measures). m.n) measures_same)
        ∙ ap (λ (k : ℕ). map (trace_in s.samples (measures_of t).n) (counting k 0)) traces_counted
        ∙ map_agree (trace_in s.samples (measures_of t).n) (trace_in t.samples (measures_of t).n) (counting (trace_count t) 0)
        (λ i h. a.samples_agree i (omega (arith, (from_counting (trace_count t) 0 h).1, (facts t w).room)))

    kinds_same : T (kinds_named s)
    unfolding kinds_named
    kinds_same = every_of (λ j. leb (small_at (record_of s.nodes j) kind_place) 2) (counting (node_count s) 0)
        (λ j i. let inside : j < length (tree_in t) = omega (arith, (from_counting (node_count s) 0 i).1, nodes_counted, node_count_lem t w) in
        le→leb _ 2 (kind_named ((like (omega arith)).reads j inside).kind))

    pub formed_same : T (well_formed s)
    unfolding well_formed
    formed_same =
        let tree : T (abstract.well_formed_tree sample_limit (measures_of t) (trace_count t) (tree_in t)) = (and_yes (kinds_named t)
        (abstract.well_formed_tree sample_limit (measures_of t) (trace_count t) (tree_in t)) w).1 in
        yes_and (kinds_named s) (abstract.well_formed_tree sample_limit (measures_of s) (trace_count s) (tree_in s)) kinds_same
        (subst (λ (m : Measures). T (abstract.well_formed_tree sample_limit m (trace_count s) (tree_in s))) (sym measures_same)
        (subst (λ (k : ℕ). T (abstract.well_formed_tree sample_limit (measures_of t) k (tree_in s))) (sym traces_counted)
        (subst (λ (r : Tree). T (abstract.well_formed_tree sample_limit (measures_of t) (trace_count t) r)) (sym tree_same) tree)))

-- they agree the other way round
pub agree_back : {t s : Tables} → Agree t s → Agree s t
agree_back {t} {s} a = record {
  control_agrees = λ i h. sym (a.control_agrees i h);
  samples_agree = subst (λ (m : Measures). (i : ℕ) → i < m.capacity → trace_in t.samples m.n i ≡ trace_in s.samples m.n i) back
      (λ i h. sym (a.samples_agree i h));
  nodes_agree = subst (λ (m : Measures). (j : ℕ) → j < 2 * m.capacity - 1 → record_of t.nodes j ≡ record_of s.nodes j) back
      (λ j h. sym (a.nodes_agree j h));
  links_agree = subst (λ (m : Measures). (i : ℕ) → i < m.capacity → get_or t.links i 0 ≡ get_or s.links i 0) back
      (λ i h. sym (a.links_agree i h));
}
  where
    back : measures_of t ≡ measures_of s
    back = sym (measures_same a)

-- tables that agree hold the same
pub holds_same : {t s : Tables} {m : Measures} {traces : List Trace} → Agree t s → Long s → Holds t m traces → Holds s m traces
holds_same a long h = record {
  formed = formed_same a h.formed h.long;
  long = long;
  measures_are = measures_same a ∙ h.measures_are;
  traces_are = traces_same a h.formed h.long ∙ h.traces_are;
  tree_is = tree_same a h.formed h.long ∙ h.tree_is;
}

-- ---- more places behind

-- a part that lies inside is not changed by them
part_more : {A : Type 0} (w : ℕ) (p q : List A) (j : ℕ) → j * w + w ≤ length p → part_of w (p ++ q) j ≡ part_of w p j
part_more {A} w p q j h =
    ap (λ (l : List A). take w l) (drop-append-le (j * w) p q (omega arith))
    ∙ take-append-le w (drop (j * w) p) q (omega (arith, length-drop (j * w) p))

pub record_more : (p q : List ℤ) (j : ℕ) → j * record_places + record_places ≤ length p → record_of (p ++ q) j ≡ record_of p j
unfolding record_of
record_more p q j h = part_more record_places p q j h

module _ (part more : Tables) (long : Long part) where
  pub extended_agree : Agree part (extended part more)
  unfolding trace_in samples_needed records_needed links_needed
  extended_agree = record {
    control_agrees = λ i h. get_or-append part.control more.control 0 i (omega (arith, h, long.control_long));
    samples_agree = λ i h. let g : suc i * (measures_of part).n ≤ (measures_of part).capacity * (measures_of part).n = mul-le-mul_right (measures_of part).n h in
        ap samples_of (part_more (measures_of part).n part.samples more.samples i (omega (arith, g, long.samples_long)));
    nodes_agree = λ j h. record_more part.nodes more.nodes j (record_inside (2 * (measures_of part).capacity - 1) j part.nodes long.nodes_long h);
    links_agree = λ i h. get_or-append part.links more.links 0 i (omega (arith, h, long.links_long));
  }

  pub extended_long : Long (extended part more)
  extended_long = subst
      (λ (m : Measures). (samples_needed m ≤ length part.samples) → (records_needed m * record_places ≤ length part.nodes) →
      (links_needed m ≤ length part.links) → Long (extended part more)) (measures_same extended_agree)
      (λ s n l. record {
        control_long = omega (arith, long.control_long, length-append part.control more.control);
        samples_long = omega (arith, s, length-append part.samples more.samples);
        nodes_long = omega (arith, n, length-append part.nodes more.nodes);
        links_long = omega (arith, l, length-append part.links more.links);
      }) long.samples_long long.nodes_long long.links_long

-- ---- a memory and its first places

pub begins_agree : {part memory : Tables} → Begins part memory → Long part → Agree part memory
begins_agree {part} {memory} b long = subst (λ (t : Tables). Agree part t) (sym (begins_is part memory b)) (extended_agree part (rest_of part memory) long)

pub begins_long : (part memory : Tables) → Begins part memory → Long part → Long memory
begins_long part memory b long = subst Long (sym (begins_is part memory b)) (extended_long part (rest_of part memory) long)

-- the memory holds what its first places do
pub holds_whole : {part memory : Tables} {m : Measures} {traces : List Trace} → Begins part memory → Holds part m traces → Holds memory m traces
holds_whole {part} {memory} b h = holds_same (begins_agree b h.long) (begins_long part memory b h.long) h
