-- `replay::plans::plan` meets its contract: the tables, the kind, and what is ahead.
use Rattle.std.specs.Prelude.{Option, None, Some, if◌then◌else◌}
use Prim.Native.Nat.{◌-◌}
use mathlib.Core.Bool.{Bool, true, false}
use mathlib.Core.Path.{◌≡◌, sym, ap, ◌∙◌}
use native.Mathlib.Omega.{arith}
use Rattle.dstree.specs.Book.{Lent}
use Rattle.tables.specs.Judge.{lengths_by}
use Rattle.replay.specs.declared.Amounts.{Amounts}
use Rattle.replay.specs.Script.{amounts, CallKind, kind_by, kinds, call_kind_at, kind_found, fits_in, enough, if_enough, moved}
use Rattle.replay.proofs.Asking.{enough_is, not_lent, is_lent}
use Rattle.replay.proofs.plans.plan.Goals as goal

abbrev left : Amounts → Amounts → Amounts
left all at = amounts (all.samples - at.samples) (all.trails - at.trails) (all.sheets - at.sheets)

abbrev if_so : CallKind → Bool → Option CallKind
if_so k b = if b then Some k else None

pub returns-then-not-fits : goal.returns-then-not-fits
returns-then-not-fits c =
    let lengths = lengths_by c.args.lent in
    not_lent lengths _ c.args.row.now
    (ap (λ (l : Lent). fits_in l lengths) (sym c.lengths.ensures) ∙ (sym c.fits.ensures ∙ c.if-not-fits.true))

pub returns-in_default : goal.returns-in_default
unfolding kind_found if_enough
returns-in_default c =
    let lengths = lengths_by c.args.lent in
    let fit = ap (λ (l : Lent). fits_in l lengths) (sym c.lengths.ensures) ∙ (sym c.fits.ensures ∙ c.if-not-fits.false) in
    is_lent lengths (left c.args.all c.args.at) c.args.row.now fit None (c.in_default.ensures ∙ ap (call_kind_at kinds) c.number_at.ensures)

pub returns-then-not-is_enough : goal.returns-then-not-is_enough
unfolding kind_found if_enough
returns-then-not-is_enough c =
    let lengths = lengths_by c.args.lent in
    let ahead = left c.args.all c.args.at in
    let k = kind_by c.in-Ok.kind in
    let fit = ap (λ (l : Lent). fits_in l lengths) (sym c.lengths.ensures) ∙ (sym c.fits.ensures ∙ c.if-not-fits.false) in
    let few : enough (k.takes c.args.row.now) ahead ≡ false = ap (λ (z : Amounts). enough z ahead) (sym c.wanted-size.ensures)
    ∙ (sym c.is_enough.ensures ∙ c.if-not-is_enough.true) in
    is_lent lengths ahead c.args.row.now fit (Some k) (c.in-Ok.ensures ∙ ap (call_kind_at kinds) c.number_at.ensures) ∙ ap (if_so k) few

pub overflow_add-result : goal.overflow_add-result
overflow_add-result c = omega (arith, (enough_is _ _ (sym c.is_enough.ensures ∙ c.if-not-is_enough.false)).0)

pub overflow_add-result-2 : goal.overflow_add-result-2
overflow_add-result-2 c = omega (arith, (enough_is _ _ (sym c.is_enough.ensures ∙ c.if-not-is_enough.false)).1)

pub overflow_add-result-3 : goal.overflow_add-result-3
overflow_add-result-3 c = omega (arith, (enough_is _ _ (sym c.is_enough.ensures ∙ c.if-not-is_enough.false)).2)

pub returns : goal.returns
unfolding kind_found if_enough
returns c =
    let lengths = lengths_by c.args.lent in
    let ahead = left c.args.all c.args.at in
    let k = kind_by c.in-Ok.kind in
    let fit = ap (λ (l : Lent). fits_in l lengths) (sym c.lengths.ensures) ∙ (sym c.fits.ensures ∙ c.if-not-fits.false) in
    let there : enough (k.takes c.args.row.now) ahead ≡ true = ap (λ (z : Amounts). enough z ahead) (sym c.wanted-size.ensures)
    ∙ (sym c.is_enough.ensures ∙ c.if-not-is_enough.false) in
    record {
      can = is_lent lengths ahead c.args.row.now fit (Some k) (c.in-Ok.ensures ∙ ap (call_kind_at kinds) c.number_at.ensures) ∙ ap (if_so k) there;
      to_is = ap (λ (z : Amounts). moved c.args.at z) c.wanted-size.ensures;
    }
