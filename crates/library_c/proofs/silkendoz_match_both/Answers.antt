-- `silkendoz_match_both` meets its contract: the call's own equation, what is returned of its answer, and the part that goes with it.
use Prim.Native.Nat.{◌+◌, ◌≤◌}
use mathlib.Core.Path.{sym, ap, subst}
use native.Mathlib.Omega.{arith}
use lib.ListN.{length}
use Rattle.dstree.specs.Book.{Answer}
use Rattle.calls.specs.Outcome.{Outcome}
use Rattle.pairing.specs.Answered.{answer_by, leaves_by, factory_leaves_by}
use Rattle.pairing.specs.Parts.{LentPart, lent_part, HandedBack}
use Rattle.pairing.proofs.Told.{leaves_in, handed_back}
use Rattle.library_c.proofs.Answers.{exported_call}
use Rattle.library_c.proofs.silkendoz_match_both.Goals as goal

module _ (c : goal.After-tell_paired-arg-1) where
  leaves_told : (factory_leaves_by c.match_both-found.result ≤ length c.match_both-found.new.trail)
      × (leaves_by c.match_both-found.result ≤ length c.match_both-found.new.trail + length c.match_both-found.new.bench_trail)
  leaves_told =
      leaves_in _ _ c.args.query.now c.args.trail.now c.args.bench_trail.now _ _ c.match_both-found.new.trail c.match_both-found.new.bench_trail
      c.match_both-found.result c.match_both-found.ensures

pub tell_paired-requires : goal.tell_paired-requires
tell_paired-requires c = omega (arith, leaves_told c)

pub returns : goal.returns
returns c =
    let found = c.match_both-found.result in
    let trail = c.match_both-found.new.trail in
    let bench_trail = c.match_both-found.new.bench_trail in
    let factory = lent_part c.args.samples in
    let bench = lent_part c.args.bench_samples in
    let n = length c.args.query.now in
    let told = leaves_in _ _ c.args.query.now c.args.trail.now c.args.bench_trail.now _ _ trail bench_trail found c.match_both-found.ensures in
    let said = ap (λ (o : Outcome). o.answer) c.match_both-found.ensures in (
      exported_call _ _ _ _ _ _ _ (c.tell_paired.ensures trail bench_trail told.0) c.match_both-found.ensures,
      subst (λ (x : Answer). HandedBack x factory bench n (lent_part c.won_part.result)) said
          (subst (λ (p : LentPart). HandedBack (answer_by found trail bench_trail) factory bench n p) (sym c.won_part.ensures)
          (handed_back trail bench_trail factory bench n found)),
    )
