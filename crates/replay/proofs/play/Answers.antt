-- `replay::play` meets its contract: after some rows the lent slices are in the state that these leave.
use mathlib.Core.Path.{ap, ◌∙◌}
use native.Mathlib.Omega.{arith}
use lib.ListN.{length}
use Rattle.tables.specs.Tables.{Tables, labelled_tables}
use Rattle.dstree.proofs.SheetFields.{known_bytes}
use Rattle.replay.proofs.Played.{playing_first, playing_on, memory_then, trails_then, sheets_then}
use Rattle.replay.proofs.Played.{replies_then, ran_then}
use Rattle.replay.proofs.Played.{same_lengths, demanded}
use Rattle.replay.proofs.play.Goals as goal

pub loop-row-init : goal.loop-row-init
loop-row-init c =
    let a = c.args in
    let t₀ : Tables = labelled_tables a.control.now a.samples.now a.nodes.now a.links.now a.work.now a.labels.now in
    let bytes = known_bytes a.sheets.now (λ i. omega (arith, c.type_inv.sheets i)) in
    rw c.into_iter-row-iterator.ensures.into_iter_gives
    (playing_first t₀ a.script.now a.pool.now a.trails.now a.sheets.now a.replies.now bytes)

pub turn-turned-requires : goal.turn-turned-requires
turn-turned-requires c = c.loop-row.invariant.inside

-- no more rows than numbers
pub tell-count-requires : goal.tell-count-requires
tell-count-requires c = omega (arith, c.loop-row.invariant.few, ap length c.in-Some.ensures.steps)

pub loop-row-preserved : goal.loop-row-preserved
loop-row-preserved c =
    let call = c.turn-turned in
    let l = c.loop-row in
    let a = c.args in
    let tell = c.tell-count in
    let new = call.new in
    let t₀ : Tables = labelled_tables a.control.now a.samples.now a.nodes.now a.links.now a.work.now a.labels.now in
    let t : Tables = labelled_tables l.control l.samples l.nodes l.links l.work l.labels in
    let t' : Tables = labelled_tables new.control new.samples new.nodes new.links new.work new.labels in
    playing_on t₀ a.script.now a.pool.now a.trails.now a.sheets.now a.replies.now
    {t = t} {t' = t'} call.result _ _ l.invariant
    (same_lengths t t₀ l.auto.control l.auto.samples l.auto.nodes l.auto.links l.auto.work l.auto.labels)
    (same_lengths t' t₀ (call.auto.control ∙ l.auto.control) (call.auto.samples ∙ l.auto.samples) (call.auto.nodes ∙ l.auto.nodes)
    (call.auto.links ∙ l.auto.links) (call.auto.work ∙ l.auto.work) (call.auto.labels ∙ l.auto.labels))
    c.in-Some.ensures.steps call.ensures.0 call.ensures.1 call.auto.trails call.auto.sheets _ _ tell.ensures.0 tell.ensures.1

pub returns : goal.returns
returns c =
    let a = c.args in
    let t₀ : Tables = labelled_tables a.control.now a.samples.now a.nodes.now a.links.now a.work.now a.labels.now in
    let h = c.loop-row.invariant in
    let all = c.in-None.ensures.steps.0 in record {
      labels_value = (
        memory_then t₀ a.script.now a.pool.now a.trails.now a.sheets.now a.replies.now h all,
        trails_then t₀ a.script.now a.pool.now a.trails.now a.sheets.now a.replies.now h all,
        sheets_then t₀ a.script.now a.pool.now a.trails.now a.sheets.now a.replies.now h all,
        replies_then t₀ a.script.now a.pool.now a.trails.now a.sheets.now a.replies.now h all,
      );
      demanded = demanded _ _ (ran_then t₀ a.script.now a.pool.now a.trails.now a.sheets.now a.replies.now h all);
    }
