-- `split_choice::choice::choose` meets its contract: the list is the leaf's numbers, and if its traces are all the same no candidate parts
-- it.
use mathlib.Core.Path.{◌≡◌, refl, sym, subst, ◌∙◌}
use mathlib.Core.List.{List, []}
use Prim.Native.Nat.{ℕ, ◌<◌}
use native.Mathlib.Omega.{arith}
use lib.IntN.{ℤ}
use lib.ListN.{get_or, take, length-take}
use Rattle.integer.proofs.Lists.{In}
use Rattle.dstree.specs.Adding.{best}
use Rattle.tables.specs.View.{trace_in}
use Rattle.tables.specs.Walk.{Stored, stored_in, numbers_of}
use Rattle.tables.proofs.Listed.{numbers_below, run_in, stored_at}
use Rattle.leaf_figures.specs.Ends.{ends_of}
use Rattle.split_choice.specs.Choosing.{chosen_by, ChoiceSound}
use Rattle.split_choice.proofs.Unparted.{none_parts}
use Rattle.split_choice.proofs.choice.choose.Goals as goal

-- the listed numbers are stored
below : {samples : List ℤ} {links : List ℕ} {n k head : ℕ} {numbers : List ℕ} → Stored samples links n k head → numbers ≡ numbers_of links k head → (t : ℕ) → In t numbers → t < k
below {samples} {links} {n} {k} {head} p e t i = numbers_below links k p.rising head t p.inside (subst (In t) e i)

pub invariant_of-traces : goal.invariant_of-traces
invariant_of-traces c =
    let p = c.requires.0 in
    let g = c.list_leaf-count in record {
      inside = record {
        narrow = p.narrow;
        few = omega (arith, length-take g.result g.new.list, g.ensures.few);
        inside = λ t i. (run_in {first = 1} {last = 1} p (record { from_1 = omega arith; rises = omega arith; to_n = p.wide }) t (below p g.ensures.list_after t i)).room;
        below = below p g.ensures.list_after;
      };
    }

pub returns-then-all_same : goal.returns-then-all_same
returns-then-all_same c =
    let a = c.args in
    let all = ends_of a.e in
    let stored = stored_in a.samples.now a.n a.k in
    let numbers = numbers_of a.links.now a.k a.head in
    let g = c.list_leaf-count in
    let head = trace_in a.samples.now a.n (get_or (take g.result g.new.list) 0 0) in
    let same : (t : ℕ) → In t numbers → get_or stored t [] ≡ head =
    λ t i. stored_at a.samples.now a.n a.k t (below c.requires.0 refl t i) ∙ c.all_same.ensures c.if-all_same.true t (subst (In t) (sym g.ensures.list_after) i) in
    record { result_value = sym (none_parts stored all numbers head same); sound = tt }

pub returns : goal.returns
returns c =
    let a = c.args in
    let all = ends_of a.e in
    let stored = stored_in a.samples.now a.n a.k in
    let e = c.list_leaf-count.ensures.list_after in
    record {
      result_value = subst (λ (m : List ℕ). chosen_by stored all m c.best_kept.result ≡ best stored all m) e c.best_kept.ensures.result_value;
      sound = subst (λ (m : List ℕ). ChoiceSound a.n stored all m c.best_kept.result) e c.best_kept.ensures.sound;
    }
