-- `records_fit::records::head_fits` meets its contract, by the kind field: a leaf fits, a kind that is not named does not, and an inner
-- node by its children and its test.
use mathlib.Core.Path.{◌≡◌, sym, ap, ◌∙◌}
use mathlib.Core.Bool.{true, false}
use Prim.Native.Nat.{ℕ, ◌≤◌}
use native.Mathlib.Omega.{arith}
use Rattle.std.proofs.Common.{rules}
use Rattle.tables.specs.declared.kinds.Kind.{Kind}
use Rattle.tables.specs.declared.kinds.Kind.TheVariants as v
use mir.Syntax.{w64}
use mir.ValLaws.{to_z-of_z}
use borrow.Author.Rules.{sfits_of}
use Rattle.tables.specs.Layout.{kind_place, first_place, right_place}
use Rattle.tables.specs.View.{small_at}
use Rattle.tables.specs.Kinds.{number_of}
use Rattle.records_fit.specs.Fits.{child_fits}
use Rattle.records_fit.proofs.Heads.{head_leaf, head_other, head_left, head_right, head_test, test_is}
use Rattle.records_fit.proofs.records.head_fits.Goals as goal

-- a kind's number is one of the three that are named
named_by : {x : ℕ} (k : Kind) → x ≡ number_of k → x ≤ 2
named_by v.Leaf e = omega arith
named_by v.BySum e = omega arith
named_by v.ByScatter e = omega arith

pub returns-in_default : goal.returns-in_default
returns-in_default c = let a = c.args in sym (head_other a.n a.m a.j a.places.now c.in_default.ensures)

pub returns-then-eq : goal.returns-then-eq
returns-then-eq c =
    let a = c.args in
    let z : number_of c.in-Some.kind ≡ 0 = search rules in
    sym (head_leaf a.n a.m a.j a.places.now (omega (arith, c.in-Some.ensures, z)))

pub returns-then-not-child_fits : goal.returns-then-not-child_fits
returns-then-not-child_fits c =
    let a = c.args in
    let places = a.places.now in
    let inner : number_of c.in-Some.kind ≡ 0 → ⊥ = search rules in
    let not_leaf = λ (e : small_at places kind_place ≡ 0). inner (sym c.in-Some.ensures ∙ e) in
    let named = named_by c.in-Some.kind c.in-Some.ensures in
    let left : child_fits a.m a.j (small_at places first_place) ≡ false = sym (c.child_fits.ensures ∙ ap (child_fits a.m a.j) c.small_at.ensures) ∙ c.if-not-child_fits.true in
    sym (head_left a.n a.m a.j places not_leaf named left)

pub returns-then-not-child_fits-2 : goal.returns-then-not-child_fits-2
returns-then-not-child_fits-2 c =
    let a = c.args in
    let places = a.places.now in
    let inner : number_of c.in-Some.kind ≡ 0 → ⊥ = search rules in
    let not_leaf = λ (e : small_at places kind_place ≡ 0). inner (sym c.in-Some.ensures ∙ e) in
    let named = named_by c.in-Some.kind c.in-Some.ensures in
    let left : child_fits a.m a.j (small_at places first_place) ≡ true = sym (c.child_fits.ensures ∙ ap (child_fits a.m a.j) c.small_at.ensures) ∙ c.if-not-child_fits.false in
    let right : child_fits a.m a.j (small_at places right_place) ≡ false = sym (c.child_fits-2.ensures ∙ ap (child_fits a.m a.j) c.small_at-2.ensures) ∙ c.if-not-child_fits-2.true in
    sym (head_right a.n a.m a.j places not_leaf named left right)

pub returns : goal.returns
returns c =
    let a = c.args in
    let places = a.places.now in
    let inner : number_of c.in-Some.kind ≡ 0 → ⊥ = search rules in
    let not_leaf = λ (e : small_at places kind_place ≡ 0). inner (sym c.in-Some.ensures ∙ e) in
    let named = named_by c.in-Some.kind c.in-Some.ensures in
    let left : child_fits a.m a.j (small_at places first_place) ≡ true = sym (c.child_fits.ensures ∙ ap (child_fits a.m a.j) c.small_at.ensures) ∙ c.if-not-child_fits.false in
    let right : child_fits a.m a.j (small_at places right_place) ≡ true = sym (c.child_fits-2.ensures ∙ ap (child_fits a.m a.j) c.small_at-2.ensures) ∙ c.if-not-child_fits-2.false in
    let v = c.value_at in
    c.test_fits.ensures (small_at places first_place) (small_at places right_place)
    ∙ (test_is a.n places (sym c.in-Some.ensures) c.small_at-first.ensures
    c.small_at-last.ensures (to_z-of_z w64 v.result (sfits_of {w = w64} {z = v.result} v.type_inv) ∙ v.ensures)
    ∙ sym (head_test a.n a.m a.j places not_leaf named left right))
