-- `leaf_figures::sameness::all_same` meets its contract: the traces met are all the first one.
use Rattle.std.specs.Bool.{Decides}
use Rattle.std.specs.Cmp.Rules.{signed_items}
use Rattle.std.specs.Cmp.Lexicographic.{pointwise}
use Rattle.std.specs.Ordering.{int_eq}
use mathlib.Core.Bool.{Bool, true, false, not}
use mathlib.Core.List.{List}
use lib.IntN.{ℤ}
use mathlib.Core.Path.{◌≡◌, refl, sym, ap, subst, ◌∙◌}
use Prim.Native.Nat.{ℕ, ◌+◌, ◌*◌, ◌≤◌, ◌<◌}
use native.Mathlib.Omega.{arith}
use lib.ListN.{length, get_or}
use Rattle.std.proofs.lemmas.List.{take_all}
use Rattle.integer.proofs.Lists.{In, in_get_or}
use Rattle.segment.specs.Stored.{samples_of}
use Rattle.leaf_figures.specs.Rows.{trace_of}
use Rattle.leaf_figures.specs.declared.listed.Listed.{Listed}
use Rattle.leaf_figures.proofs.Listing.{all_taken_more}
use Rattle.leaf_figures.proofs.sameness.all_same.Goals as goal

-- a listed trace lies in the table whole
room : (l : Listed) (i : ℕ) {t : ℕ} → i < length l.list.now → t ≡ get_or l.list.now i 0 → t * l.n + l.n ≤ length l.samples.now
room l i {t} h e = l.inside.inside t (subst (λ (x : ℕ). In x l.list.now) (sym e) (in_get_or l.list.now i 0 h))

-- traces that do not differ are the same
same_words : (xs ys : List ℤ) → not (pointwise int_eq xs ys) ≡ false → xs ≡ ys
same_words xs ys e = by (pointwise int_eq xs ys) (signed_items xs ys) e
  where
    by : (b : Bool) → Decides b (xs ≡ ys) → not b ≡ false → xs ≡ ys
    by true d f = d.0 refl
    by false d f = absurd (cc f)

pub trace_at-first-requires : goal.trace_at-first-requires
trace_at-first-requires c = room c.args.traces 0 (omega (arith, c.if-list-lt2.false)) c.from.ensures

pub trace_at-other-requires : goal.trace_at-other-requires
trace_at-other-requires c = room c.args.traces c.loop-number.number-index c.loop-number-test.true c.from-in-loop-number.ensures

pub loop-number-preserved : goal.loop-number-preserved
loop-number-preserved c =
    let l = c.args.traces in
    let list = l.list.now in
    let i = c.loop-number.number-index in
    let first = c.trace_at-first.result.now in
    let other = c.trace_at-other.result.now in
    let equal : other ≡ first = same_words other first (sym c.ne.ensures ∙ c.if-ne.false) in
    let here : trace_of l (get_or list i 0) ≡ trace_of l (get_or list 0 0) =
    sym (ap (trace_of l) c.from-in-loop-number.ensures) ∙ (sym c.trace_at-other.ensures ∙ (ap samples_of equal ∙ (c.trace_at-first.ensures ∙ ap (trace_of l) c.from.ensures))) in
    all_taken_more list (λ (u : ℕ). trace_of l u ≡ trace_of l (get_or list 0 0)) i c.loop-number-test.true c.loop-number.invariant here

pub returns : goal.returns
returns c = λ e t m.
    let list = c.args.traces.list.now in
    c.loop-number.invariant t (subst (In t) (sym (take_all c.loop-number.number-index list c.loop-number-test.false)) m)
