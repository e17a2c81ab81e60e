-- `candidate::siding::list_side` meets its contract: what is listed, and what the rest of the list has of the side, make the side. Each
-- trace is written behind what is listed, and counts if it is on the side.
use Rattle.std.specs.Prelude.{if◌then◌else◌}
use mathlib.Core.Path.{◌≡◌, sym, ap, subst, ◌∙◌}
use mathlib.Core.Bool.{Bool, beq}
use mathlib.Core.List.{List, [], ◌∷◌, ◌++◌, append-nil}
use Prim.Native.Nat.{ℕ, suc, ◌+◌}
use native.Mathlib.Omega.{arith}
use native.Mathlib.Numerals.{add-one}
use lib.IntN.{ℤ}
use lib.ListN.{get_or, set, take, drop, length-set, drop_of_length-le}
use lib.Seq.{drop-cons}
use mir.Syntax.{w64}
use mir.Val.{bool_byte}
use mir.Facts.{to_z-of_z}
use Rattle.integer.proofs.Width.{read}
use Rattle.integer.proofs.Lists.{In, in_get_or}
use Rattle.dstree.specs.Node.{sends_left}
use Rattle.leaf_figures.specs.Rows.{trace_of}
use Rattle.leaf_figures.proofs.Listing.{listed_run, listed_row}
use Rattle.candidate.specs.Siding.{trial_test, on_side, side_of}
use Rattle.candidate.proofs.Sided.{side_more, side_none, listed_more, counted_most, counted_is, on_same}
use Rattle.candidate.proofs.siding.list_side.Goals as goal

pub goes_left_at-goes-requires : goal.goes_left_at-goes-requires
goes_left_at-goes-requires c =
    let a = c.args in
    let t = c.from-t.result in
    let l = a.rows.traces in
    let listed = subst (λ (u : ℕ). In u l.list.now) (sym c.from-t.ensures) (in_get_or l.list.now c.loop-number.number-index 0 c.loop-number-test.true) in
    (listed_run l a.c.on t listed c.requires.0, listed_row l a.rows.place.now a.c.on c.kept_on-kept.result t listed c.kept_on-kept.ensures)

pub loop-number-preserved : goal.loop-number-preserved
loop-number-preserved c =
    let a = c.args in
    let l = c.loop-number in
    let traces = a.rows.traces in
    let list = traces.list.now in
    let test = trial_test a.c (read w64 a.threshold) in
    let x = get_or list l.number-index 0 in
    let b : Bool = on_side a.left (sends_left test (trace_of traces x)) in
    let goes : c.goes_left_at-goes.result ≡ sends_left test (trace_of traces x) =
    c.goes_left_at-goes.ensures ∙ ap (λ (u : ℕ). sends_left test (trace_of traces u)) c.from-t.ensures in
    let on : beq a.left c.goes_left_at-goes.result ≡ b = on_same a.left c.goes_left_at-goes.result ∙ ap (on_side a.left) goes in
    let e : l.most + c.from-most.result ≡ (if b then suc l.most else l.most) =
    ap (λ (m : ℕ). l.most + m) (c.from-most.ensures ∙ ap bool_byte on) ∙ counted_is b l.most in
    let after = side_of traces.samples.now traces.n test a.left (drop (l.number-index + 1) list) in
    let here : drop l.number-index list ≡ x ∷ drop (l.number-index + 1) list =
    drop-cons list l.number-index 0 c.loop-number-test.true ∙ ap (λ (m : ℕ). x ∷ drop m list) (sym (add-one l.number-index)) in
    let more = side_more traces.samples.now traces.n test a.left x (drop (l.number-index + 1) list) in (
      omega (arith, e, counted_most b l.most, l.invariant.0),
      length-set l.side l.most x ∙ l.invariant.1,
      ap (λ (m : ℕ). take m (set l.side l.most x) ++ after) e
          ∙ (listed_more l.side l.most x b after (omega (arith, l.invariant.0, l.invariant.1, c.loop-number-test.true, traces.inside.few))
          ∙ (ap (λ (m : List ℕ). take l.most l.side ++ m) (sym (ap (side_of traces.samples.now traces.n test a.left) here ∙ more)) ∙ l.invariant.2)),
    )

pub returns : goal.returns
returns c =
    let a = c.args in
    let l = c.loop-number in
    let list = a.rows.traces.list.now in
    let side = side_of a.rows.traces.samples.now a.rows.traces.n (trial_test a.c (read w64 a.threshold)) a.left in
    let none : side (drop l.number-index list) ≡ [] = ap side (drop_of_length-le list {i = l.number-index} c.loop-number-test.false)
    ∙ side_none a.rows.traces.samples.now a.rows.traces.n (trial_test a.c (read w64 a.threshold)) a.left in
    let all : take l.most l.side ≡ side list =
    sym (append-nil (take l.most l.side)) ∙ (ap (λ (m : List ℕ). take l.most l.side ++ m) (sym none) ∙ l.invariant.2) in record {
      side_after = subst (λ (z : ℤ). take l.most l.side ≡ side_of a.rows.traces.samples.now a.rows.traces.n (trial_test a.c z) a.left list) (to_z-of_z c.ranges.threshold) all;
      few = omega (arith, l.invariant.0, l.auto.number-index-end, a.rows.traces.inside.few);
      size = l.invariant.1;
    }
