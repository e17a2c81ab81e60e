-- `replay::turns::lend` meets its contract: what comes back in the first places of each table, and in the next ones of each supply, is what
-- the call leaves there.
use Prim.Native.Nat.{ℕ, ◌≤◌}
use mathlib.Core.Path.{◌≡◌, sym, ap, subst, ◌∙◌}
use Rattle.std.specs.Prelude.{Some}
use mathlib.Core.List.{List}
use lib.IntN.{ℤ}
use native.Mathlib.Omega.{arith}
use lib.ListN.{length, drop, length-drop}
use lib.Seq.{length-take-le}
use borrow.Rule.Slice.PartMut.{Post-is}
use Rattle.dstree.specs.Book.{Lent}
use Rattle.tables.specs.Tables.{Tables, labelled_tables}
use Rattle.tables.specs.Beginning.{first_places, LentWithin}
use Rattle.tables.specs.Judge.{lengths_by}
use Rattle.replay.specs.declared.Amounts.{Amounts}
use Rattle.replay.specs.Script.{lent_by, state_at, AmountsInside, Taken, taken, amounts, amounts_of, next_of, kind_by, CallKind, moved, playable}
use Rattle.replay.specs.Script.{called, called_by}
use Rattle.replay.proofs.Asking.{Playable, playable_is}
use Rattle.replay.proofs.Lending.{back_is_left, lengths_kept}
use Rattle.replay.proofs.Moves.{next_is, next_size, played_to}
use Rattle.replay.proofs.turns.lend.Goals as goal

-- ---- what is known at entry, by the tables' lengths

module _ (lengths : Lent) (row : List ℕ) {pool : List ℤ} {trails sheets : List ℕ} {at to : Amounts} (inside : AmountsInside at pool trails sheets)
    (k : CallKind)
    (can : playable lengths (amounts (length (drop at.samples pool)) (length (drop at.trails trails)) (length (drop at.sheets sheets))) row ≡ Some k)
    (to_is : to ≡ moved at (k.takes row)) where
  abbrev ahead : Amounts
  ahead = amounts (length (drop at.samples pool)) (length (drop at.trails trails)) (length (drop at.sheets sheets))

  there : Playable lengths ahead row k
  there = playable_is lengths ahead row k can

  trail_bounds : (at.trails ≤ to.trails) × (to.trails ≤ length trails)
  trail_bounds =
      let e = ap (λ (z : Amounts). z.trails) to_is in
      (omega (arith, e), omega (arith, e, there.trails_there, inside.trails_inside, length-drop at.trails trails))

  sheet_bounds : (at.sheets ≤ to.sheets) × (to.sheets ≤ length sheets)
  sheet_bounds =
      let e = ap (λ (z : Amounts). z.sheets) to_is in
      (omega (arith, e), omega (arith, e, there.sheets_there, inside.sheets_inside, length-drop at.sheets sheets))

  sample_bounds : (at.samples ≤ to.samples) × (to.samples ≤ length pool)
  sample_bounds =
      let e = ap (λ (z : Amounts). z.samples) to_is in
      (omega (arith, e), omega (arith, e, there.samples_there, inside.samples_inside_lem, length-drop at.samples pool))

  -- the row's lengths are within the tables
  within : {lent : Lent} → lent ≡ lent_by row → LentWithin lent lengths
  within {lent} e = subst (λ (l : Lent). LentWithin l lengths) (sym e) there.within

pub slice_bounds-call-end : goal.slice_bounds-call-end
slice_bounds-call-end c =
    let p = c.requires in let w = within _ _ p.amounts_inside _ p.planned.can p.planned.to_is c.lengths-lent.ensures in
    omega (arith, w.control_within)

pub slice_bounds-call-end-2 : goal.slice_bounds-call-end-2
slice_bounds-call-end-2 c =
    let p = c.requires in let w = within _ _ p.amounts_inside _ p.planned.can p.planned.to_is c.lengths-lent.ensures in
    sym (length-take-le _ c.args.control.now w.control_within)

pub slice_bounds-call-end-3 : goal.slice_bounds-call-end-3
slice_bounds-call-end-3 c =
    let p = c.requires in let w = within _ _ p.amounts_inside _ p.planned.can p.planned.to_is c.lengths-lent.ensures in
    omega (arith, w.samples_within)

pub slice_bounds-call-end-4 : goal.slice_bounds-call-end-4
slice_bounds-call-end-4 c =
    let p = c.requires in let w = within _ _ p.amounts_inside _ p.planned.can p.planned.to_is c.lengths-lent.ensures in
    sym (length-take-le _ c.args.samples.now w.samples_within)

pub slice_bounds-call-end-5 : goal.slice_bounds-call-end-5
slice_bounds-call-end-5 c =
    let p = c.requires in let w = within _ _ p.amounts_inside _ p.planned.can p.planned.to_is c.lengths-lent.ensures in
    omega (arith, w.nodes_within)

pub slice_bounds-call-end-6 : goal.slice_bounds-call-end-6
slice_bounds-call-end-6 c =
    let p = c.requires in let w = within _ _ p.amounts_inside _ p.planned.can p.planned.to_is c.lengths-lent.ensures in
    sym (length-take-le _ c.args.nodes.now w.nodes_within)

pub slice_bounds-call-end-7 : goal.slice_bounds-call-end-7
slice_bounds-call-end-7 c =
    let p = c.requires in let w = within _ _ p.amounts_inside _ p.planned.can p.planned.to_is c.lengths-lent.ensures in
    omega (arith, w.links_within)

pub slice_bounds-call-end-8 : goal.slice_bounds-call-end-8
slice_bounds-call-end-8 c =
    let p = c.requires in let w = within _ _ p.amounts_inside _ p.planned.can p.planned.to_is c.lengths-lent.ensures in
    sym (length-take-le _ c.args.links.now w.links_within)

pub slice_bounds-call-end-9 : goal.slice_bounds-call-end-9
slice_bounds-call-end-9 c =
    let p = c.requires in let w = within _ _ p.amounts_inside _ p.planned.can p.planned.to_is c.lengths-lent.ensures in
    omega (arith, w.work_within)

pub slice_bounds-call-end-10 : goal.slice_bounds-call-end-10
slice_bounds-call-end-10 c =
    let p = c.requires in let w = within _ _ p.amounts_inside _ p.planned.can p.planned.to_is c.lengths-lent.ensures in
    sym (length-take-le _ c.args.work.now w.work_within)

pub slice_bounds-call-end-11 : goal.slice_bounds-call-end-11
slice_bounds-call-end-11 c =
    let p = c.requires in let w = within _ _ p.amounts_inside _ p.planned.can p.planned.to_is c.lengths-lent.ensures in
    omega (arith, w.labels_within)

pub slice_bounds-call-end-12 : goal.slice_bounds-call-end-12
slice_bounds-call-end-12 c =
    let p = c.requires in let w = within _ _ p.amounts_inside _ p.planned.can p.planned.to_is c.lengths-lent.ensures in
    sym (length-take-le _ c.args.labels.now w.labels_within)

pub slice_bounds-call-count : goal.slice_bounds-call-count
slice_bounds-call-count c =
    let p = c.requires in let b = trail_bounds _ _ p.amounts_inside _ p.planned.can p.planned.to_is in
    omega (arith, b.0)

pub slice_bounds-call-start : goal.slice_bounds-call-start
slice_bounds-call-start c =
    let p = c.requires in let b = trail_bounds _ _ p.amounts_inside _ p.planned.can p.planned.to_is in
    omega (arith, b.0, b.1)

pub slice_bounds-call-end-13 : goal.slice_bounds-call-end-13
slice_bounds-call-end-13 c =
    let p = c.requires in let b = trail_bounds _ _ p.amounts_inside _ p.planned.can p.planned.to_is in
    omega (arith, b.1)

pub slice_bounds-call-count-2 : goal.slice_bounds-call-count-2
slice_bounds-call-count-2 c =
    let p = c.requires in let b = sheet_bounds _ _ p.amounts_inside _ p.planned.can p.planned.to_is in
    omega (arith, b.0)

pub slice_bounds-call-start-2 : goal.slice_bounds-call-start-2
slice_bounds-call-start-2 c =
    let p = c.requires in let b = sheet_bounds _ _ p.amounts_inside _ p.planned.can p.planned.to_is in
    omega (arith, b.0, b.1)

pub slice_bounds-call-end-14 : goal.slice_bounds-call-end-14
slice_bounds-call-end-14 c =
    let p = c.requires in let b = sheet_bounds _ _ p.amounts_inside _ p.planned.can p.planned.to_is in
    omega (arith, b.1)

pub slice_bounds-call-count-3 : goal.slice_bounds-call-count-3
slice_bounds-call-count-3 c =
    let p = c.requires in let b = sample_bounds _ _ p.amounts_inside _ p.planned.can p.planned.to_is in
    omega (arith, b.0)

pub slice_bounds-call-start-3 : goal.slice_bounds-call-start-3
slice_bounds-call-start-3 c =
    let p = c.requires in let b = sample_bounds _ _ p.amounts_inside _ p.planned.can p.planned.to_is in
    omega (arith, b.0, b.1)

pub slice_bounds-call-end-15 : goal.slice_bounds-call-end-15
slice_bounds-call-end-15 c =
    let p = c.requires in let b = sample_bounds _ _ p.amounts_inside _ p.planned.can p.planned.to_is in
    omega (arith, b.1)

-- ---- the call
pub returns : goal.returns
returns c =
    let call = c.call in
    let a = c.args in
    let row = a.row.now in
    let pool = a.pool.now in
    let trails = a.trails.now in
    let sheets = a.sheets.now in
    let m : Tables = labelled_tables a.control.now a.samples.now a.nodes.now a.links.now a.work.now a.labels.now in
    let inside = c.requires.amounts_inside in
    let to = a.plan.to in
    let to_is = c.requires.planned.to_is in
    let k = kind_by a.plan.kind in
    let can = c.requires.planned.can in
    let lent = lengths_by c.lengths-lent.result in
    let after : Tables = labelled_tables call.new.control call.new.samples call.new.nodes call.new.links call.new.work call.new.labels in
    let trail = call.new.trail in
    let sheet = call.new.sheet in
    let next = next_of (k.takes row) (state_at m pool trails sheets a.at) in
    let is_next = next_is m pool trails sheets a.at inside row k can to to_is in
    let kept = lengths_kept lent after m (within _ row inside k can to_is c.lengths-lent.ensures) call.auto.control call.auto.samples
    call.auto.nodes call.auto.links call.auto.work call.auto.labels in
    let does : amounts_of next ≡ k.takes row → called call.result after (taken next.samples trail sheet)
    ≡ called_by (k.ask row next) (first_places (lent_by row) m) =
    subst (λ (l : Lent). amounts_of next ≡ k.takes row → called call.result after (taken next.samples trail sheet)
    ≡ called_by (k.ask row next) (first_places l m)) c.lengths-lent.ensures
    (subst (λ (x : Taken). amounts_of x ≡ k.takes row → called call.result after (taken x.samples trail sheet)
    ≡ called_by (k.ask row x) (first_places lent m)) is_next
    call.ensures) in
    let size = next_size m pool trails sheets a.at inside row k can in
    let trail_size = call.auto.trail ∙ (ap (λ (x : Taken). length x.trail) is_next
    ∙ ap (λ (z : Amounts). z.trails) size) in
    let sheet_size = call.auto.sheet ∙ (ap (λ (x : Taken). length x.sheet) is_next
    ∙ ap (λ (z : Amounts). z.sheets) size) in
    rw (
      Post-is a.at.trails to.trails trails (trail_bounds _ row inside k can to_is).0,
      Post-is a.at.sheets to.sheets sheets (sheet_bounds _ row inside k can to_is).0,
    )
    (played_to m pool trails sheets a.at inside row k can to to_is call.result after _ trail sheet does
    (back_is_left lent after m kept) trail_size sheet_size)
