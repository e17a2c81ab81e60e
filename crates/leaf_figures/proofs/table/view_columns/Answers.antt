-- `leaf_figures::table::view_columns` meets its contract: after f turns the first f views show the first f columns.
use Rattle.std.specs.Prelude.{None, map}
use Rattle.std.proofs.lemmas.List.{take_all, take_more, take_more_set}
use mathlib.Core.Path.{◌≡◌, refl, sym, ap, ap₂, ◌∙◌}
use mathlib.Core.List.{List, [], ◌∷◌, ◌++◌}
use Prim.Native.Nat.{ℕ, ◌+◌, ◌<◌}
use native.Mathlib.Omega.{arith}
use lib.ListN.{length, get_or, set, take, length-set}
use Rattle.integer.proofs.Rows.{map_append}
use Rattle.leaf_figures.specs.Rows.{viewed}
use Rattle.leaf_figures.specs.declared.table.Column.{Column}
use Rattle.leaf_figures.specs.declared.table.ColumnView.{ColumnView}
use Rattle.leaf_figures.proofs.table.view_columns.Goals as goal

-- one view more
views_more : (columns : List Column) (views : List ColumnView) (f : ℕ) (v : ColumnView) (d : Column) → f < length columns → f < length views → viewed v ≡ get_or columns f d
    → map viewed (take f views) ≡ take f columns → map viewed (take (f + 1) (set views f v)) ≡ take (f + 1) columns
views_more columns views f v d inside room is before =
    ap (map viewed) (take_more_set views f v room)
    ∙ (map_append viewed (take f views) (v ∷ []) ∙ (ap₂ (λ (a : List Column) (x : Column). a ++ (x ∷ [])) before is ∙ sym (take_more columns f d inside)))

pub loop-f-init : goal.loop-f-init
loop-f-init c = (c.told-views, refl)

pub loop-f-preserved : goal.loop-f-preserved
loop-f-preserved c =
    let l = c.loop-f in
    let inside : l.f < length c.args.columns.now = omega (arith, c.told-columns, c.loop-f-test.true) in
    let room : l.f < length l.views = omega (arith, l.invariant.0, c.loop-f-test.true) in (
      length-set l.views l.f _ ∙ l.invariant.0,
      views_more c.args.columns.now l.views l.f _ (record { run = None; figures = [] }) inside room refl l.invariant.1,
    )

pub returns : goal.returns
returns c =
    let l = c.loop-f in
    let shown = take_all l.f l.views (omega (arith, l.invariant.0, c.loop-f-test.false)) in
    let all = take_all l.f c.args.columns.now (omega (arith, c.told-columns, c.loop-f-test.false)) in
    sym (ap (map viewed) shown) ∙ (l.invariant.1 ∙ all)
