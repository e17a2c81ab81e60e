-- `candidate::parting::look_along` meets its contract: while the loop goes on, all traces taken so far went to the first one's side.
use mathlib.Core.Path.{◌≡◌, sym, ap, subst, ◌∙◌}
use mathlib.Core.Bool.{Bool, true, false}
use mathlib.Core.List.{List, [], ◌∷◌}
use Prim.Native.Nat.{ℕ, ◌+◌, ◌<◌}
use native.Mathlib.Omega.{arith}
use lib.IntN.{ℤ}
use lib.ListN.{length, get_or}
use mir.Syntax.{w64}
use mir.Val.{SFits}
use mir.Facts.{to_z-of_z}
use Rattle.std.proofs.lemmas.List.{take_all}
use Rattle.integer.proofs.Lists.{In, in_nil, in_get_or}
use Rattle.integer.proofs.Width.{read}
use Rattle.dstree.specs.Measures.{Trace}
use Rattle.dstree.specs.Node.{Test, sends_left}
use Rattle.dstree.specs.Adding.{goes_by}
use Rattle.tables.proofs.Listed.{stored_at}
use Rattle.leaf_figures.specs.Rows.{trace_of, stored_of}
use Rattle.leaf_figures.specs.declared.listed.Listed.{Listed}
use Rattle.leaf_figures.proofs.Listing.{all_taken_more, listed_run, listed_row}
use Rattle.candidate.specs.Siding.{trial_test}
use Rattle.candidate.specs.declared.siding.Trial.{Trial}
use Rattle.candidate.specs.Parting.{look_of}
use Rattle.candidate.proofs.Seen.{look, differ, alike, seen_none, seen_found}
use Rattle.candidate.proofs.parting.look_along.Goals as goal

-- an answer by the test with the threshold as it is read back is one by the test
answer : (stored : List Trace) (c : Trial) (threshold : ℤ) → SFits w64 threshold → (numbers : List ℕ) (both : Bool) (taken : ℕ)
    → look both taken ≡ look_of stored (trial_test c (read w64 threshold)) numbers → look both taken ≡ look_of stored (trial_test c threshold) numbers
answer stored c threshold fits numbers both taken e = subst (λ (z : ℤ). look both taken ≡ look_of stored (trial_test c z) numbers) (to_z-of_z fits) e

-- the way of a listed trace is that of the stored one
goes_at : (l : Listed) (test : Test) (i : ℕ) {t : ℕ} (goes : Bool) → i < length l.list.now → t ≡ get_or l.list.now i 0 → goes ≡ sends_left test (trace_of l t)
    → goes_by (stored_of l) test (get_or l.list.now i 0) ≡ goes
goes_at l test i goes h e is =
    let t = get_or l.list.now i 0 in
    ap (sends_left test) (stored_at l.samples.now l.n l.k t (l.inside.below t (in_get_or l.list.now i 0 h)) ∙ ap (trace_of l) (sym e)) ∙ sym is

listed : (l : Listed) (i : ℕ) {t : ℕ} → i < length l.list.now → t ≡ get_or l.list.now i 0 → In t l.list.now
listed l i h e = subst (λ (t : ℕ). In t l.list.now) (sym e) (in_get_or l.list.now i 0 h)

-- in no list there is nothing
nothing_in : (list : List ℕ) → length list ≡ 0 → {t : ℕ} → In t list → ⊥
nothing_in [] e i = in_nil i
nothing_in (x ∷ l) e i = absurd (omega (arith, e))

pub returns-then-list-eq0 : goal.returns-then-list-eq0
returns-then-list-eq0 c =
    let l = c.args.rows.traces in
    subst (λ (m : ℕ). look false m ≡ look_of (stored_of l) (trial_test c.args.c c.args.threshold) l.list.now) c.if-list-eq0.true
    (seen_none (stored_of l) l.list.now (trial_test c.args.c c.args.threshold) true (λ t i. absurd (nothing_in l.list.now c.if-list-eq0.true i)))

pub goes_left_at-side-requires : goal.goes_left_at-side-requires
goes_left_at-side-requires c =
    let a = c.args in
    let t = c.from.result in
    let l = a.rows.traces in
    let i = listed l 0 (omega (arith, c.if-list-eq0.false)) c.from.ensures in
    (listed_run l a.c.on t i c.requires, listed_row l a.rows.place.now a.c.on c.kept_on-kept.result t i c.kept_on-kept.ensures)

pub loop-i-init : goal.loop-i-init
loop-i-init c =
    let l = c.args.rows.traces in
    let test = trial_test c.args.c (read w64 c.args.threshold) in
    let some : 0 < length l.list.now = omega (arith, c.if-list-eq0.false) in
    all_taken_more l.list.now (λ (t : ℕ). goes_by (stored_of l) test t ≡ c.goes_left_at-side.result) 0 some (λ t i. absurd (in_nil i))
    (goes_at l test 0 c.goes_left_at-side.result some c.from.ensures c.goes_left_at-side.ensures)

pub goes_left_at-goes-requires : goal.goes_left_at-goes-requires
goes_left_at-goes-requires c =
    let a = c.args in
    let t = c.from-in-loop-i.result in
    let l = a.rows.traces in
    let i = listed l c.loop-i.i c.loop-i-test.true c.from-in-loop-i.ensures in
    (listed_run l a.c.on t i c.requires, listed_row l a.rows.place.now a.c.on c.kept_on-kept.result t i c.kept_on-kept.ensures)

pub returns-then-goes-side : goal.returns-then-goes-side
returns-then-goes-side c =
    let l = c.args.rows.traces in
    let i = c.loop-i.i in
    let test = trial_test c.args.c (read w64 c.args.threshold) in
    let goes = c.goes_left_at-goes in
    answer (stored_of l) c.args.c c.args.threshold c.ranges.threshold l.list.now true (i + 1)
    (seen_found (stored_of l) l.list.now test c.goes_left_at-side.result i (omega (arith, c.loop-i.auto.i)) c.loop-i-test.true c.loop-i.invariant
    (goes_at l test i goes.result c.loop-i-test.true c.from-in-loop-i.ensures goes.ensures ∙ differ _ _ c.if-goes-side.true))

pub loop-i-preserved : goal.loop-i-preserved
loop-i-preserved c =
    let l = c.args.rows.traces in
    let i = c.loop-i.i in
    let test = trial_test c.args.c (read w64 c.args.threshold) in
    let goes = c.goes_left_at-goes in
    all_taken_more l.list.now (λ (t : ℕ). goes_by (stored_of l) test t ≡ c.goes_left_at-side.result) i c.loop-i-test.true c.loop-i.invariant
    (goes_at l test i goes.result c.loop-i-test.true c.from-in-loop-i.ensures goes.ensures ∙ alike _ _ c.if-goes-side.false)

pub returns : goal.returns
returns c =
    let l = c.args.rows.traces in
    let test = trial_test c.args.c (read w64 c.args.threshold) in
    answer (stored_of l) c.args.c c.args.threshold c.ranges.threshold l.list.now false (length l.list.now)
    (seen_none (stored_of l) l.list.now test c.goes_left_at-side.result
    (λ t i. c.loop-i.invariant t (subst (In t) (sym (take_all c.loop-i.i l.list.now c.loop-i-test.false)) i)))
