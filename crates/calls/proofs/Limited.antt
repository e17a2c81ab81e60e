-- Document 02, §12, of calls that follow their definitions: what holds of a match with a limit on any tables.
use Prim.Native.Nat.{ℕ, ◌<◌}
use mathlib.Core.Path.{◌≡◌, refl, sym, ap, subst, ◌∙◌}
use mathlib.Core.List.{[], ◌∷◌}
use native.Mathlib.Nat.{pos_of_ne-zero}
use lib.ListN.{length}
use lib.Dec.{T, eqb}
use borrow.Author.Tests.{eqb-false}
use Rattle.dstree.specs.Measures.{sample_limit}
use Rattle.dstree.specs.LeafLimit.{limited_by_steps}
use Rattle.dstree.specs.WellFormed as abstract
use Rattle.dstree.specs.Refusals.{first_of, no_leaves}
use Rattle.dstree.specs.Book.{beside_of, limited, Reply}
use Rattle.dstree.proofs.Conditions.{none_first, none_both}
use Rattle.dstree.proofs.LimitSteps.{limit_anywhere, limit_of_formed}
use Rattle.tables.specs.Tables.{measures_of}
use Rattle.tables.specs.View.{tree_in, traces_in}
use Rattle.tables.specs.Beginning.{first_places}
use Rattle.tables.specs.Answers.{made_conditions}
use Rattle.tables.proofs.Views.{traces_size, tree_passes}
use Rattle.tables.proofs.Judged.{accepted}
use Rattle.calls.specs.Effects.{limits, effect_of}
use Rattle.calls.specs.Demands.{LimitedIn, LimitsAnywhere}
use Rattle.calls.proofs.Finds.{run_fits}
use Rattle.calls.proofs.Steps.{reply_is}
use Rattle.calls.proofs.OneCall.{one_call}
use Rattle.calls.proofs.OffTrail.{answered}

pub limits_anywhere : LimitsAnywhere
unfolding effect_of beside_of
limits_anywhere lent most query trail memory memory' said f m answers =
    let t = first_places lent memory in
    let e = limits t most query trail in
    let known = answered (first_of e.conditions) t (trail ∷ []) e (limited m)
    (sym (ap (λ (r : Reply). r.answer) (reply_is f)) ∙ answers) in
    let parts = none_both (made_conditions t) _ known.0 in
    let own = none_first (eqb most 0) no_leaves _ parts.1 in
    let formed = subst (λ (n : ℕ). T (abstract.well_formed_tree sample_limit (measures_of t) n (tree_in t))) (sym (traces_size t))
    (tree_passes t (accepted t parts.0).formed) in
    let some_trace : 0 < length (traces_in t) =
    subst (λ (n : ℕ). 0 < n) (sym (traces_size t)) (run_fits t (measures_of t).n query trail own.1).some_trace in
    let is : limited_by_steps most (traces_in t) (tree_in t) query ≡ m = cc in (
      subst (LimitedIn most query t) is
          (record {
            by_steps = refl;
            steps_are = limit_anywhere most (traces_in t) (tree_in t) query;
            best_is = limit_of_formed sample_limit (measures_of t) (traces_in t) (tree_in t) formed some_trace query most
                (pos_of_ne-zero (eqb-false most 0 own.0));
          }),
      ((one_call _ memory memory' said f).works known.0).1,
    )
