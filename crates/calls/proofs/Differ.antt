-- A sample of one trace does not bear on another trace: so tables may differ in any sample of a trace outside some leaves.
use Prim.Native.Nat.{ℕ, suc, ◌+◌, ◌*◌, ◌-◌, ◌≤◌, ◌<◌}
use mathlib.Core.Path.{◌≡◌, refl, sym, ap, subst, ◌∙◌}
use mathlib.Core.Bool.{Bool, true, false}
use mathlib.Core.List.{List}
use native.Mathlib.Omega.{arith}
use native.Mathlib.Nat.{mul-le-mul_right}
use lib.ListN.{set, take, drop, length-set}
use lib.Seq.{take-set-le, drop-set-lt, drop-set-add}
use lib.IntN.{ℤ}
use lib.Dec.{T, T_not, ltb}
use borrow.Author.Tests.{ltb-true, ltb-false}
use Rattle.integer.specs.Words.{is_in}
use Rattle.integer.proofs.Lists.{strict}
use Rattle.segment.specs.Stored.{samples_of}
use Rattle.dstree.specs.Claims.{numbers_among}
use Rattle.tables.specs.Tables.{Tables, measures_of}
use Rattle.tables.specs.View.{trace_in, tree_in}
use Rattle.calls.specs.Trails.{MayDiffer}

module _ (l : List ℤ) (n i j at : ℕ) (z : ℤ) (h : at < n) (apart : j ≡ i → ⊥) where
  -- the later trace begins behind the earlier one's end
  ends : (a b : ℕ) → a < b → a * n + n ≤ b * n
  ends a b less = let q : suc a * n ≤ b * n = mul-le-mul_right n less in omega (arith, q)

  trace_set : trace_in (set l (i * n + at) z) n j ≡ trace_in l n j
  unfolding trace_in
  trace_set = ap samples_of (by (ltb j i) refl)
    where
      by : (b : Bool) → ltb j i ≡ b → take n (drop (j * n) (set l (i * n + at) z)) ≡ take n (drop (j * n) l)
      by true e =
          let behind = ends j i (ltb-true j i e) in
          let far : ℕ = i * n + at - j * n in
          let is : j * n + far ≡ i * n + at = omega (arith, behind) in
          ap (λ (p : ℕ). take n (drop (j * n) (set l p z))) (sym is)
          ∙ (ap (take n) (drop-set-add (j * n) l far z) ∙ take-set-le n (drop (j * n) l) far z (omega (arith, behind)))
      by false e =
          let behind = ends i j (strict (ltb-false j i e) (λ q. apart (sym q))) in
          ap (take n) (drop-set-lt (j * n) l (i * n + at) z (omega (arith, behind, h)))

pub may_differ : (those : List ℕ) (these : Tables) → MayDiffer those these
may_differ those these = record {
  not_at_all = record {
    control_same = refl;
    nodes_same = refl;
    links_same = refl;
    work_same = refl;
    labels_same = refl;
    as_long = refl;
    samples_same = λ trace read. refl;
  };
  in_a_sample = λ other differ trace at word h out. record {
    control_same = differ.control_same;
    nodes_same = differ.nodes_same;
    links_same = differ.links_same;
    work_same = differ.work_same;
    labels_same = differ.labels_same;
    as_long = simp length-set differ.as_long;
    samples_same = λ j read. trace_set other.samples (measures_of these).n trace j at word h
        (λ q. T_not (is_in trace (numbers_among (tree_in these) those)) out
        (subst (λ (k : ℕ). T (is_in k (numbers_among (tree_in these) those))) q read))
        ∙ differ.samples_same j read;
  };
}
