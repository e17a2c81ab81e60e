-- `adding::inserting::insert_more` meets its contract: down, join, split, each as the definition has it (`Joins`).
use mathlib.Core.Path.{◌≡◌, sym, ap, ap₂, subst, ◌∙◌}
use mathlib.Core.List.{List, [], ◌∷◌, ◌++◌}
use Prim.Native.Nat.{ℕ, suc, ◌<◌}
use native.Mathlib.Omega.{arith}
use native.Mathlib.Numerals.{add-one}
use lib.IntN.{ℤ}
use lib.ListN.{length}
use Rattle.integer.specs.Words.{last_of}
use Rattle.segment.specs.Stored.{samples_of}
use Rattle.dstree.specs.Measures.{Trace}
use Rattle.tables.specs.Layout.{first_place}
use Rattle.tables.specs.Tables.{Tables, tables, measures_of, trace_count, node_count, record_of}
use Rattle.tables.specs.View.{small_at, tree_in, traces_in}
use Rattle.tables.specs.Walk.{stored_in, numbers_of, Rising}
use Rattle.tables.proofs.Views.{tree_size}
use Rattle.insertion.specs.Way.{way_in, Descendable}
use Rattle.insertion.proofs.Down.{way_same}
use Rattle.insertion_memory.specs.Links.{joined}
use Rattle.insertion_memory.specs.Memory.{TreeTables, tree_tables, split_all_of, widened_on, joined_tables, tree_tables_in}
use Rattle.insertion_memory.proofs.Storing.{stored_last}
use Rattle.insertion_memory.proofs.FromTables.{space, tables_stand}
use Rattle.insertion_memory.proofs.Represents.{links_rise}
use Rattle.insertion_memory.proofs.Meaning.{inserted_more}
use Rattle.splitting.specs.Represented.{Represented}
use Rattle.adding.proofs.Sized.{words_size}
use Rattle.adding.proofs.Ready.{descendable}
use Rattle.adding.proofs.Joins.{leaf_in, nodes_after, head_in, links_after, leaf_low, head_low, joined_is, represented}
use Rattle.adding.proofs.inserting.insert_more.Goals as goal

-- equations in six places at once
moved : (P : List ℤ → List ℕ → ℕ → ℕ → ℕ → ℕ → Type 0) {N N' : List ℤ} {L L' : List ℕ} {a a' b b' c c' d d' : ℕ}
    → N ≡ N' → L ≡ L' → a ≡ a' → b ≡ b' → c ≡ c' → d ≡ d' → P N' L' a' b' c' d' → P N L a b c d
moved P p q r u v w h = rw (p, q, r, u, v, w) h

-- what code finds on its way, from the fields that it reads
module _ (t : Tables) (x : Trace) where
  leaf_is : (m leaf : ℕ) → m ≡ node_count t → leaf ≡ last_of (way_in t.nodes m x) → leaf ≡ leaf_in t x
  leaf_is m leaf e f = f ∙ ap (λ (j : ℕ). last_of (way_in t.nodes j x)) e ∙ ap last_of (way_same t x)

  nodes_are : (m : ℕ) (N : List ℤ) → m ≡ node_count t → N ≡ widened_on x t.nodes (way_in t.nodes m x) → N ≡ nodes_after t x
  nodes_are m N e f = f ∙ ap (λ (j : ℕ). widened_on x t.nodes (way_in t.nodes j x)) e ∙ ap (widened_on x t.nodes) (way_same t x)

  head_is : (N : List ℤ) (leaf head : ℕ) → N ≡ nodes_after t x → leaf ≡ leaf_in t x → head ≡ small_at (record_of N leaf) first_place → head ≡ head_in t x
  head_is N leaf head e f g = g ∙ ap₂ (λ (l : List ℤ) (j : ℕ). small_at (record_of l j) first_place) e f

  links_are : (k head : ℕ) (L : List ℕ) → k ≡ trace_count t → head ≡ head_in t x → L ≡ joined t.links (numbers_of t.links k head) k → L ≡ links_after t x
  links_are k head L e f g = g ∙ ap₂ (λ (j h : ℕ). joined t.links (numbers_of t.links j h) j) e f

pub descend-leaf-requires : goal.descend-leaf-requires
descend-leaf-requires c =
    let a = c.args in
    let t = tables a.control.now a.samples.now a.nodes.now a.links.now [] in
    let p = c.requires.0 in
    let down = descendable t p.formed p.long (omega (arith, c.requires.2, tree_size t)) in
    subst (λ (m : ℕ). Descendable t.nodes m (length a.trace.now)) (sym (c.from-count.ensures ∙ c.field-3.ensures))
    (subst (λ (n : ℕ). Descendable t.nodes (node_count t) n) (sym (words_size a.trace.now p)) down)

pub node_small-head-requires : goal.node_small-head-requires
node_small-head-requires c =
    let a = c.args in
    let t = tables a.control.now a.samples.now a.nodes.now a.links.now [] in
    let x = samples_of a.trace.now in
    let p = c.requires.0 in
    let some : 0 < length (tree_in t) = omega (arith, c.requires.2, tree_size t) in
    let ok = descendable t p.formed p.long some in
    let leaf = leaf_is t x c.from-count.result c.descend-leaf.result (c.from-count.ensures ∙ c.field-3.ensures) c.descend-leaf.ensures.value in
    let inside = leaf_low t x p.formed p.long p.less some in
    (omega (arith, leaf, inside, ok.room, c.descend-leaf.auto.nodes), omega (arith, leaf, inside, ok.few), omega arith)

pub join-requires : goal.join-requires
join-requires c =
    let a = c.args in
    let t = tables a.control.now a.samples.now a.nodes.now a.links.now [] in
    let x = samples_of a.trace.now in
    let p = c.requires.0 in
    let some : 0 < length (tree_in t) = omega (arith, c.requires.2, tree_size t) in
    let room = space t p.formed p.long in
    let d = c.descend-leaf in
    let count = c.from-count.ensures ∙ c.field-3.ensures in
    let k = c.from-k.ensures ∙ c.field.ensures in
    let leaf = leaf_is t x c.from-count.result d.result count d.ensures.value in
    let nodes = nodes_are t x c.from-count.result d.new.nodes count d.ensures.widened in
    let head = head_is t x d.new.nodes d.result c.node_small-head.result nodes leaf c.node_small-head.ensures in (
      omega (arith, head, k, head_low t x p.formed p.long p.less some),
      omega (arith, k, p.less, room.links_room),
      omega (arith, k, p.less, room.small),
      subst (λ (j : ℕ). Rising t.links j) (sym k) (links_rise (tables_stand t p.formed p.long)),
    )

pub overflow_add-more : goal.overflow_add-more
overflow_add-more c =
    let a = c.args in
    let p = c.requires.0 in
    omega (arith, c.from-k.ensures ∙ c.field.ensures, p.less, (space (tables a.control.now a.samples.now a.nodes.now a.links.now []) p.formed p.long).small)

pub split_all-requires : goal.split_all-requires
split_all-requires c =
    let a = c.args in
    let t = tables a.control.now a.samples.now a.nodes.now a.links.now [] in
    let x = samples_of a.trace.now in
    let p = c.requires.0 in
    let some : 0 < length (tree_in t) = omega (arith, c.requires.2, tree_size t) in
    let d = c.descend-leaf in
    let count = c.from-count.ensures ∙ c.field-3.ensures in
    let k = c.from-k.ensures ∙ c.field.ensures in
    let leaf = leaf_is t x c.from-count.result d.result count d.ensures.value in
    let nodes = nodes_are t x c.from-count.result d.new.nodes count d.ensures.widened in
    let head = head_is t x d.new.nodes d.result c.node_small-head.result nodes leaf c.node_small-head.ensures in
    let links = links_are t x c.from-k.result c.node_small-head.result c.join.new.links k head c.join.ensures in
    moved (λ (N : List ℤ) (L : List ℕ) (n k m a : ℕ). Represented N L t.samples n k m × (a < m))
    nodes links (words_size a.trace.now p) (add-one c.from-k.result ∙ ap suc k) count leaf
    (represented t x p.formed p.long p.less some, leaf_low t x p.formed p.long p.less some)

pub returns : goal.returns
unfolding traces_in
returns c =
    let a = c.args in
    let T = tables a.control.now a.samples.now a.nodes.now a.links.now [] in
    let words = a.trace.now in
    let x = samples_of words in
    let p = c.requires.0 in
    let some : 0 < length (tree_in T) = omega (arith, c.requires.2, tree_size T) in
    let d = c.descend-leaf in
    let count_is = c.from-count.ensures ∙ c.field-3.ensures in
    let k_is = c.from-k.ensures ∙ c.field.ensures in
    let leaf = leaf_is T x c.from-count.result d.result count_is d.ensures.value in
    let nodes = nodes_are T x c.from-count.result d.new.nodes count_is d.ensures.widened in
    let head = head_is T x d.new.nodes d.result c.node_small-head.result nodes leaf c.node_small-head.ensures in
    let links = links_are T x c.from-k.result c.node_small-head.result c.join.new.links k_is head c.join.ensures in
    let k = trace_count T in
    let size = words_size words p in
    let same = joined_is T x p.formed p.long p.less some in
    let traces : stored_in T.samples (length words) (suc k) ≡ traces_in T ++ (x ∷ []) =
    stored_last T.samples (length words) k x c.requires.1 ∙ ap (λ (n : ℕ). stored_in T.samples n k ++ (x ∷ [])) size in
    c.split_all.ensures
    ∙ moved (λ (N : List ℤ) (L : List ℕ) (s j m a : ℕ). split_all_of s (stored_in T.samples (length words) j) (tree_tables N L m) a
    ≡ split_all_of (measures_of T).leaf_size (traces_in T ++ (x ∷ []))
    (joined_tables (traces_in T) (tree_in T) x (tree_tables_in T)) (leaf_in T x))
    nodes links (c.from-leaf_size.ensures ∙ c.field-2.ensures) (add-one c.from-k.result ∙ ap suc k_is) count_is leaf
    (ap₂ (λ (l : List Trace) (h : TreeTables). split_all_of (measures_of T).leaf_size l h (leaf_in T x)) traces (sym same))
    ∙ sym (inserted_more (measures_of T) (traces_in T) (tree_in T) x (tree_tables_in T) some)
