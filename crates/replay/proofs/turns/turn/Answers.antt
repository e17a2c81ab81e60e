-- `replay::turns::turn` meets its contract: a row that cannot be played takes nothing, another is lent what it takes.
use Prim.Native.Nat.{ℕ, ◌-◌}
use mathlib.Core.Path.{◌≡◌, refl, sym, subst}
use mathlib.Core.List.{List}
use lib.IntN.{ℤ}
use lib.ListN.{length}
use Rattle.std.specs.Prelude.{None}
use Rattle.tables.specs.Tables.{Tables, labelled_tables, lent_of}
use Rattle.replay.specs.declared.Amounts.{Amounts}
use Rattle.replay.specs.declared.Plan.{Plan}
use Rattle.replay.specs.Script.{lent_by, State, state_at, AmountsInside, amounts, ahead_of, kind_by, playable, Planned}
use Rattle.replay.proofs.Asking.{asks_not}
use Rattle.replay.proofs.Moves.{none_is, ahead_is, inside_then}
use Rattle.replay.proofs.turns.turn.Goals as goal

-- what is planned on the slices as they are
module _ (memory : Tables) (pool : List ℤ) (trails sheets row : List ℕ) (at : Amounts) where
  abbrev here : State
  here = state_at memory pool trails sheets at

  abbrev ends : Amounts
  ends = amounts (length pool - at.samples) (length trails - at.trails) (length sheets - at.sheets)

  going : (plan : Plan) → Planned (lent_of memory) ends row at plan → Planned (lent_of memory) (ahead_of here) row at plan
  going plan p = subst (λ (z : Amounts). Planned (lent_of memory) z row at plan) (ahead_is memory pool trails sheets at) p

  staying : playable (lent_of memory) ends row ≡ None → playable (lent_of memory) (ahead_of here) row ≡ None
  staying e = subst (λ (z : Amounts). playable (lent_of memory) z row ≡ None) (ahead_is memory pool trails sheets at) e

pub plan-requires : goal.plan-requires
plan-requires c = (c.requires.samples_inside_lem, c.requires.trails_inside, c.requires.sheets_inside)

pub returns-in_default : goal.returns-in_default
returns-in_default c =
    let a = c.args in
    let m : Tables = labelled_tables a.control.now a.samples.now a.nodes.now a.links.now a.work.now a.labels.now in (
      none_is _ a.at refl (lent_by a.row.now) m a.pool.now a.trails.now a.sheets.now _
          (asks_not (lent_of m) a.row.now (here m a.pool.now a.trails.now a.sheets.now a.row.now a.at)
          (staying m a.pool.now a.trails.now a.sheets.now a.row.now a.at c.in_default.ensures)),
      c.requires,
    )

pub lend-numbers-requires : goal.lend-numbers-requires
lend-numbers-requires c =
    let a = c.args in
    let m : Tables = labelled_tables a.control.now a.samples.now a.nodes.now a.links.now a.work.now a.labels.now in
    record { amounts_inside = c.requires; planned = going m a.pool.now a.trails.now a.sheets.now a.row.now a.at c.in-Some.plan c.in-Some.ensures }

pub returns : goal.returns
returns c =
    let a = c.args in
    let m : Tables = labelled_tables a.control.now a.samples.now a.nodes.now a.links.now a.work.now a.labels.now in
    let p = going m a.pool.now a.trails.now a.sheets.now a.row.now a.at c.in-Some.plan c.in-Some.ensures in (
      c.lend-numbers.ensures,
      subst (λ (z : Amounts). AmountsInside z a.pool.now a.trails.now a.sheets.now) (sym p.to_is)
          (inside_then m a.pool.now a.trails.now a.sheets.now a.at c.requires a.row.now (kind_by c.in-Some.plan.kind) p.can),
    )
