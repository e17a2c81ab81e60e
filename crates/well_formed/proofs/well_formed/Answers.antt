-- `well_formed::well_formed` meets its contract: its tests together are the definition (`Equal`), so that the counts refuse, or the rest
-- decides.
use mathlib.Core.Bool.{false}
use mathlib.Core.Path.{◌≡◌, sym, ◌∙◌}
use mathlib.Core.Bool.{true}
use mathlib.Core.List.{[]}
use native.Mathlib.Omega.{arith}
use Rattle.tables.specs.Layout.{n_place, capacity_place, trace_count_place, node_count_place}
use Rattle.tables.specs.Tables.{tables, field, measures_of}
use Rattle.tables.proofs.Range.{in_range_lem}
use Rattle.well_formed.specs.Whole.{counts_fit, tree_fits}
use Rattle.well_formed.proofs.Equal.{counts_refuse, tree_decides, counted}
use Rattle.well_formed.proofs.well_formed.Goals as goal

pub counts_fit-requires : goal.counts_fit-requires
counts_fit-requires c =
    let control = c.args.control.now in
    let nodes = c.args.nodes.now in
    let links = c.args.links.now in
    let capacity_read : c.wide-capacity.result ≡ field control capacity_place = c.wide-capacity.ensures ∙ c.field-2.ensures in
    let ranged = in_range_lem (measures_of (tables control [] nodes links [])) c.requires.measured in
    omega (arith, capacity_read, ranged.capacity_high)

pub returns-then-not-counts_fit : goal.returns-then-not-counts_fit
returns-then-not-counts_fit c =
    let control = c.args.control.now in
    let nodes = c.args.nodes.now in
    let links = c.args.links.now in
    let capacity_read : c.wide-capacity.result ≡ field control capacity_place = c.wide-capacity.ensures ∙ c.field-2.ensures in
    let k_read : c.wide-k.result ≡ field control trace_count_place = c.wide-k.ensures ∙ c.field-3.ensures in
    let m_read : c.wide-m.result ≡ field control node_count_place = c.wide-m.ensures ∙ c.field-4.ensures in
    let counts : counts_fit (field control node_count_place) (field control trace_count_place) (field control capacity_place) ≡ false =
    rw (← m_read, ← k_read, ← capacity_read) (sym c.counts_fit.ensures ∙ c.if-not-counts_fit.true) in
    counts_refuse control nodes links c.requires.measured counts

pub tree_fits-requires : goal.tree_fits-requires
tree_fits-requires c =
    let control = c.args.control.now in
    let nodes = c.args.nodes.now in
    let links = c.args.links.now in
    let n_read : c.wide-n.result ≡ field control n_place = c.wide-n.ensures ∙ c.field.ensures in
    let capacity_read : c.wide-capacity.result ≡ field control capacity_place = c.wide-capacity.ensures ∙ c.field-2.ensures in
    let k_read : c.wide-k.result ≡ field control trace_count_place = c.wide-k.ensures ∙ c.field-3.ensures in
    let m_read : c.wide-m.result ≡ field control node_count_place = c.wide-m.ensures ∙ c.field-4.ensures in
    let ranged = in_range_lem (measures_of (tables control [] nodes links [])) c.requires.measured in
    let counts : counts_fit (field control node_count_place) (field control trace_count_place) (field control capacity_place) ≡ true =
    rw (← m_read, ← k_read, ← capacity_read) (sym c.counts_fit.ensures ∙ c.if-not-counts_fit.false) in
    let low = counted (field control node_count_place) (field control trace_count_place) (field control capacity_place) counts in
    record {
      room = omega (arith, m_read, low.1, c.requires.nodes_long);
      low = omega (arith, m_read, low.1, ranged.capacity_high);
      short = omega (arith, n_read, ranged.n_high);
      linked = omega (arith, k_read, low.0, c.requires.links_long);
      few = omega (arith, k_read, low.0, ranged.capacity_high);
    }

pub returns : goal.returns
returns c =
    let control = c.args.control.now in
    let nodes = c.args.nodes.now in
    let links = c.args.links.now in
    let n_read : c.wide-n.result ≡ field control n_place = c.wide-n.ensures ∙ c.field.ensures in
    let capacity_read : c.wide-capacity.result ≡ field control capacity_place = c.wide-capacity.ensures ∙ c.field-2.ensures in
    let k_read : c.wide-k.result ≡ field control trace_count_place = c.wide-k.ensures ∙ c.field-3.ensures in
    let m_read : c.wide-m.result ≡ field control node_count_place = c.wide-m.ensures ∙ c.field-4.ensures in
    let counts : counts_fit (field control node_count_place) (field control trace_count_place) (field control capacity_place) ≡ true =
    rw (← m_read, ← k_read, ← capacity_read) (sym c.counts_fit.ensures ∙ c.if-not-counts_fit.false) in
    let q : c.tree_fits.result ≡ tree_fits c.wide-n.result c.wide-m.result nodes c.wide-k.result links = c.tree_fits.ensures in
    q ∙ rw (n_read, m_read, k_read) (tree_decides control nodes links c.requires.measured counts)
