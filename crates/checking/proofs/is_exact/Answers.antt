-- `checking::is_exact` meets its contract: what is laid out is what is below each node, and the comparison of all records is the test of
-- the tree.
use mathlib.Core.Path.{◌≡◌, sym, ap, subst, ◌∙◌}
use mathlib.Core.List.{List, []}
use Prim.Native.Nat.{ℕ}
use Rattle.integer.specs.Words.{every, counting}
use Rattle.tables.specs.Tables.{Tables, tables, measures_of, trace_count, node_count}
use lib.Dec.{T}
use Rattle.tables.specs.View.{well_formed}
use Rattle.tables.specs.Holds.{Long}
use Rattle.tables.specs.Nodes.{tree_by, Walks}
use Rattle.checking.specs.Laid.{LaidOut}
use Rattle.figures_below.specs.Compared.{ReadyToCompare}
use Rattle.figures_below.specs.Compared.{exact_in}
use Rattle.tables.proofs.ByKind.{walks}
use Rattle.checking.proofs.Trusted.{ready, all_same}
use Rattle.checking.proofs.is_exact.Goals as goal

-- by the counts that were read
module _ (t : Tables) (formed : T (well_formed t)) (long : Long t) {k m : ℕ} (k_is : k ≡ trace_count t) (m_is : m ≡ node_count t) where
  walked : Walks t.nodes t.links k m
  walked =
      subst (λ (x : ℕ). Walks t.nodes t.links x m) (sym k_is)
      (subst (λ (x : ℕ). Walks t.nodes t.links (trace_count t) x) (sym m_is) (walks t formed long.nodes_long long.links_long))

  module _ {sizes starts order : List ℕ} (out : LaidOut (tree_by t.nodes t.links k m) sizes starts order) where
    laid : LaidOut (tree_by t.nodes t.links (trace_count t) (node_count t)) sizes starts order
    laid =
        subst (λ (x : ℕ). LaidOut (tree_by t.nodes t.links x (node_count t)) sizes starts order) k_is
        (subst (λ (x : ℕ). LaidOut (tree_by t.nodes t.links k x) sizes starts order) m_is out)

    compared : {n : ℕ} → n ≡ (measures_of t).n → ReadyToCompare t.samples t.nodes n m sizes starts order
    compared {n} n_is =
        subst (λ (x : ℕ). ReadyToCompare t.samples t.nodes x m sizes starts order) (sym n_is)
        (subst (λ (x : ℕ). ReadyToCompare t.samples t.nodes (measures_of t).n x sizes starts order) (sym m_is) (ready t formed long laid))

pub fill_sizes-requires : goal.fill_sizes-requires
fill_sizes-requires c =
    let a = c.args in
    walked (tables a.control.now a.samples.now a.nodes.now a.links.now []) c.requires.0 c.requires.1 (c.wide-k.ensures ∙ c.field-2.ensures) (c.wide-m.ensures ∙ c.field-3.ensures)

pub lay_out-requires : goal.lay_out-requires
lay_out-requires c =
    let a = c.args in (
      walked (tables a.control.now a.samples.now a.nodes.now a.links.now []) c.requires.0 c.requires.1 (c.wide-k.ensures ∙ c.field-2.ensures) (c.wide-m.ensures ∙ c.field-3.ensures),
      c.fill_sizes.ensures,
    )

pub all_exact-requires : goal.all_exact-requires
all_exact-requires c =
    let a = c.args in
    compared (tables a.control.now a.samples.now a.nodes.now a.links.now []) c.requires.0 c.requires.1 (c.wide-k.ensures ∙ c.field-2.ensures) (c.wide-m.ensures ∙ c.field-3.ensures)
    c.lay_out.ensures (c.wide-n.ensures ∙ c.field.ensures)

pub returns : goal.returns
returns c =
    let a = c.args in
    let t = tables a.control.now a.samples.now a.nodes.now a.links.now [] in
    let k_is = c.wide-k.ensures ∙ c.field-2.ensures in
    let m_is = c.wide-m.ensures ∙ c.field-3.ensures in
    let sizes = c.fill_sizes.new.sizes in
    let starts = c.lay_out.new.starts in
    let order = c.lay_out.new.order in
    c.all_exact.ensures
    ∙ (ap (λ (n : ℕ). every (exact_in t.samples t.nodes n sizes starts order) (counting c.wide-m.result 0)) (c.wide-n.ensures ∙ c.field.ensures)
    ∙ (ap (λ (m : ℕ). every (exact_in t.samples t.nodes (measures_of t).n sizes starts order) (counting m 0)) m_is
    ∙ all_same t c.requires.0 c.requires.1 (laid t c.requires.0 c.requires.1 k_is m_is c.lay_out.ensures)))
