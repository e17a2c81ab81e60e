-- `adding::putting::put` meets its contract: the samples with the new trace, nodes and links after it joined, and the counts, are the
-- definition's.
use mathlib.Core.Path.{◌≡◌, ap, ap₂, subst, sym, ◌∙◌}
use mathlib.Core.List.{List, []}
use Prim.Native.Nat.{ℕ, suc, ◌+◌, ◌*◌, ◌≤◌}
use native.Mathlib.Nat.{mul-le-mul_right}
use native.Mathlib.Numerals.{add-one}
use native.Mathlib.Omega.{arith}
use lib.IntN.{ℤ}
use lib.ListN.{length, set}
use lib.Seq.{paste}
use Rattle.segment.specs.Stored.{samples_of, words_of}
use Rattle.dstree.specs.Measures.{Trace, samples_needed}
use Rattle.dstree.proofs.Nodes.{nodes_most}
use Rattle.tables.specs.Layout.{trace_count_place, node_count_place}
use Rattle.tables.specs.Tables.{Tables, tables, measures_of, trace_count}
use Rattle.tables.specs.View.{small_most, tree_in, trace_in, traces_in, kinds_named, well_formed}
use Rattle.tables.proofs.Range.{samples_fit}
use Rattle.insertion_memory.specs.Memory.{TreeTables, tree_tables, inserted_tables, tree_tables_in, tree_tables_after, added_to}
use Rattle.insertion_memory.proofs.FromTables.{range}
use Rattle.insertion_memory.proofs.Storing.{trace_new, stored_same, stored_length}
use Rattle.insertion_memory.proofs.Meaning.{after_represents}
use Rattle.adding.specs.Putting.{Takes}
use Rattle.adding.proofs.Sized.{words_size}
use Rattle.adding.proofs.putting.put.Goals as goal

same_tables : (work : List ℕ) {c c' : List ℕ} {s s' n n' : List ℤ} {l l' : List ℕ} → c ≡ c' → s ≡ s' → n ≡ n' → l ≡ l' → tables c s n l work ≡ tables c' s' n' l' work
same_tables work p q r u = rw (p, q, r, u)

-- ---- tables that take a trace
-- whatever the search work holds
module _ (t : Tables) (x : Trace) (p : Takes t.control t.samples t.nodes t.links x) where
  abbrev n : ℕ
  n = (measures_of t).n

  abbrev k : ℕ
  k = trace_count t

  -- the samples with the new trace
  abbrev stored : List ℤ
  stored = paste t.samples (k * n) (words_of x) n

  same_length : length stored ≡ length t.samples
  unfolding samples_needed
  same_length = stored_length t.samples n k (measures_of t).capacity x p.is_trace_lem p.less p.long.samples_long

  -- the tables with them take it too
  takes_stored : Takes t.control stored t.nodes t.links x
  unfolding well_formed kinds_named tree_in
  takes_stored = record {
    formed = p.formed;
    long = record {
      control_long = p.long.control_long;
      samples_long = omega (arith, p.long.samples_long, same_length);
      nodes_long = p.long.nodes_long;
      links_long = p.long.links_long;
    };
    is_trace_lem = p.is_trace_lem;
    less = p.less;
  }

  -- nodes and links after it are those of the tables without: the stored traces before it are the same
  after_stored : tree_tables_after (tables t.control stored t.nodes t.links []) x ≡ tree_tables_after t x
  unfolding traces_in tree_in samples_needed
  after_stored = ap (λ (l : List Trace). inserted_tables (measures_of t) l (tree_in t) x (tree_tables_in t))
      (stored_same t.samples n k (measures_of t).capacity x p.is_trace_lem p.less p.long.samples_long)

-- ---- the call, of the words and what code finds of them and of the tables

module _ (s : Tables) (words : List ℤ) (p : Takes s.control s.samples s.nodes s.links (samples_of words)) where
  abbrev lent : List ℕ → Tables
  lent work = tables s.control s.samples s.nodes s.links work

  stored_is : (k : ℕ) (l : List ℤ) → k ≡ trace_count (lent []) → l ≡ paste s.samples (k * length words) (words_of (samples_of words)) (length words)
      → l ≡ stored (lent []) (samples_of words) p
  stored_is k l e f = f ∙ ap₂ (λ (j q : ℕ). paste s.samples (j * q) (words_of (samples_of words)) q) e (words_size words p)

  -- nodes and links with the new trace
  after_is : (l : List ℤ) (h : TreeTables) → l ≡ stored (lent []) (samples_of words) p
      → h ≡ tree_tables_after (tables s.control l s.nodes s.links []) (samples_of words) → (work : List ℕ) → h ≡ tree_tables_after (lent work) (samples_of words)
  after_is l h e f work =
      f
      ∙ ap (λ (m : List ℤ). tree_tables_after (tables s.control m s.nodes s.links []) (samples_of words)) e
      ∙ after_stored (lent work) (samples_of words) p

pub overflow_mul-at : goal.overflow_mul-at
overflow_mul-at c =
    let a = c.args in
    let p = c.requires in
    let fit = range (tables a.control.now a.samples.now a.nodes.now a.links.now []) p.formed in
    record {
      fits = samples_fit c.from-k.result (length a.trace.now)
          (omega (arith, c.from-k.ensures ∙ c.field.ensures, p.less, fit.capacity_high)) (omega (arith, words_size a.trace.now p, fit.n_high));
    }

pub copy_trace-requires : goal.copy_trace-requires
unfolding samples_needed
copy_trace-requires c =
    let a = c.args in
    let p = c.requires in
    let t = tables a.control.now a.samples.now a.nodes.now a.links.now [] in
    let size = words_size a.trace.now p in
    let g : suc (trace_count t) * (measures_of t).n ≤ (measures_of t).capacity * (measures_of t).n = mul-le-mul_right (measures_of t).n p.less in
    let at_is : c.from-k.result * length a.trace.now ≡ trace_count t * (measures_of t).n = ap₂ ◌*◌ (c.from-k.ensures ∙ c.field.ensures) size in
    omega (arith, at_is, g, p.long.samples_long, size)

pub insert-more-requires : goal.insert-more-requires
unfolding samples_needed
insert-more-requires c =
    let a = c.args in
    let p = c.requires in
    let t = tables a.control.now a.samples.now a.nodes.now a.links.now [] in
    let words = a.trace.now in
    let x = samples_of words in
    let now = stored_is t words p c.from-k.result c.copy_trace.new.samples (c.from-k.ensures ∙ c.field.ensures) c.copy_trace.ensures in
    subst (λ (l : List ℤ). Takes t.control l t.nodes t.links x × (trace_in l (length words) (trace_count t) ≡ x))
    (sym now) (
      takes_stored t x p,
      ap (λ (n : ℕ). trace_in (stored t x p) n (trace_count t)) (words_size words p)
          ∙ trace_new t.samples (measures_of t).n (trace_count t) (measures_of t).capacity x p.is_trace_lem p.less p.long.samples_long,
    )

pub write_counts-requires : goal.write_counts-requires
write_counts-requires c =
    let a = c.args in
    let p = c.requires in
    let t = tables a.control.now a.samples.now a.nodes.now a.links.now [] in
    let x = samples_of a.trace.now in
    let k_is = c.from-k.ensures ∙ c.field.ensures in
    let now = stored_is t a.trace.now p c.from-k.result c.copy_trace.new.samples k_is c.copy_trace.ensures in
    let after = after_represents t x p.formed p.long p.is_trace_lem p.less in
    let few = (range t p.formed).capacity_high in
    let count : c.insert-more.result ≡ (tree_tables_after t x).count =
    ap (λ (h : TreeTables). h.count) (after_is t a.trace.now p c.copy_trace.new.samples _ now c.insert-more.ensures []) in
    let nodes : c.insert-more.result ≤ small_most = omega (arith, count, after.count, nodes_most after.shape, p.less, few) in
    (p.long.control_long, omega (arith, k_is, p.less, few), nodes)

pub returns : goal.returns
unfolding added_to
returns c =
    λ work.
    let a = c.args in
    let p = c.requires in
    let t = tables a.control.now a.samples.now a.nodes.now a.links.now work in
    let k_is = c.from-k.ensures ∙ c.field.ensures in
    let now = stored_is t a.trace.now p c.from-k.result c.copy_trace.new.samples k_is c.copy_trace.ensures in
    let after : tree_tables c.insert-more.new.nodes c.insert-more.new.links c.insert-more.result ≡ tree_tables_after t (samples_of a.trace.now) =
    after_is t a.trace.now p c.copy_trace.new.samples _ now c.insert-more.ensures work in
    let h = tree_tables_after t (samples_of a.trace.now) in
    let next : c.from-k.result + 1 ≡ suc (trace_count t) = add-one c.from-k.result ∙ ap suc k_is in
    let control : c.write_counts.new.control ≡ set (set t.control trace_count_place (suc (trace_count t))) node_count_place h.count =
    c.write_counts.ensures ∙ ap₂ (λ (v w : ℕ). set (set t.control trace_count_place v) node_count_place w) next (ap (λ (q : TreeTables). q.count) after) in
    same_tables work control now (ap (λ (q : TreeTables). q.nodes) after) (ap (λ (q : TreeTables). q.links) after)
