-- What is kept of the leaves read, when one more is read for all queries, or passed over.
use Rattle.std.specs.Prelude.{if◌then◌else◌}
use Prim.Native.Nat.{ℕ, zero, suc, ◌<◌}
use mathlib.Core.Path.{◌≡◌, refl, sym, ◌∙◌, ap, subst}
use mathlib.Core.Logic.{◌⊎◌, inl, inr}
use mathlib.Core.Bool.{Bool, true, false}
use mathlib.Core.Option.{Option, some}
use mathlib.Core.List.{List, [], ◌∷◌, ◌++◌, map, foldl}
use native.Mathlib.Omega.{arith}
use lib.IntN.{ℤ}
use lib.ListN.{length, set}
use lib.Seq.{get_or-set_same, get_or-set_other}
use Rattle.integer.specs.Words.{is_in}
use Rattle.integer.proofs.Tests.{test_true}
use Rattle.integer.proofs.Lists.{same_or_not, In, first, in_is, in_append_left, in_append_right, in_snoc}
use Rattle.dstree.specs.Matching.{Near, best_with, distances_in}
use Rattle.dstree.specs.Batch.{best_among, read_once}
use Rattle.dstree.proofs.BatchSteps.{same_in, best_more}
use Rattle.tables.specs.Layout.{first_place}
use Rattle.tables.specs.Tables.{Tables, measures_of, trace_count, node_count, record_of}
use Rattle.tables.specs.View.{small_at, tree_in, traces_in}
use Rattle.tables.specs.Walk.{numbers_of}
use Rattle.reading.specs.Nearest.{near_of}
use Rattle.reading.specs.Listed.{record_at}
use Rattle.reading.proofs.Meaning.{LeafInTables, distances_are}
use Rattle.batch_leaves.specs.LeavesRead.{query_at, best_by, is_marked, BestsAndMarks, AllRead}

-- once a leaf was read, there is a record
best_some : (leaves : ℕ) (a : Near) → 0 < leaves → best_by leaves a ≡ some a
best_some zero a h = absurd (omega arith)
best_some (suc more) a h = refl

-- a leaf that was read is passed over, another is read
once_is : (read : List ℕ) (j : ℕ) (b : Bool) → is_in j read ≡ b → read_once read j ≡ (if b then read else read ++ (j ∷ []))
unfolding read_once
once_is read j b e = rw e

-- with one number more
in_other : (read : List ℕ) (j k : ℕ) → (k ≡ j → ⊥) → is_in k (read ++ (j ∷ [])) ≡ is_in k read
in_other read j k f = same_in k (read ++ (j ∷ [])) read (λ i. by (in_snoc read i)) (λ i. in_append_left (j ∷ []) i)
  where
    by : In k read ⊎ (k ≡ j) → In k read
    by (inl i) = i
    by (inr e) = absurd (f e)

module _ (t : Tables) (run : List ℤ) (many j : ℕ) (at : LeafInTables t j) {read bests marks : List ℕ} {leaves : ℕ}
    (k : BestsAndMarks t run many read bests marks leaves) where
  pub once_old : is_marked marks j ≡ true → BestsAndMarks t run many (read_once read j) bests marks leaves
  once_old e =
      subst (λ (l : List ℕ). BestsAndMarks t run many l bests marks leaves)
      (sym (once_is read j true (sym (k.mark_is j at.inside) ∙ e))) k

  marks_more : j < length marks → (i : ℕ) → i < node_count t → is_marked (set marks j 1) i ≡ is_in i (read ++ (j ∷ []))
  marks_more room i h = by (same_or_not i j)
    where
      here : is_marked (set marks j 1) j ≡ is_in j (read ++ (j ∷ []))
      here =
          let e = get_or-set_same marks j 1 0 room in
          rw e (sym (test_true (is_in j (read ++ (j ∷ []))) (in_is (in_append_right read first))))

      by : Dec (i ≡ j) → is_marked (set marks j 1) i ≡ is_in i (read ++ (j ∷ []))
      by (yes e) = subst (λ (m : ℕ). is_marked (set marks j 1) m ≡ is_in m (read ++ (j ∷ []))) (sym e) here
      by (no f) =
          let e = get_or-set_other marks j i 1 0 f in
          rw e (k.mark_is i h ∙ sym (in_other read j i f))

  module _ (bests' : List ℕ)
      (all : AllRead leaves many (λ i. map (near_of t.samples (measures_of t).n (query_at t run i))
      (numbers_of t.links (trace_count t) (small_at (record_of t.nodes j) first_place))) bests bests') where
    best_after : (i : ℕ) → i < many
        → some (record_at bests' i) ≡ best_among (traces_in t) (tree_in t) (query_at t run i) (read ++ (j ∷ []))
    best_after i h =
        let query = query_at t run i in
        let D = distances_in (traces_in t) (tree_in t) query j in
        all i h
        ∙ ap (λ (l : List Near). foldl best_with (best_by leaves (record_at bests i)) l) (sym (distances_are t j at query))
        ∙ ap (λ (o : Option Near). foldl best_with o D) (k.best_is i h)
        ∙ sym (best_more (traces_in t) (tree_in t) query read j)

    pub once_new : is_marked marks j ≡ false → j < length marks → (leaves' : ℕ) → 0 < leaves'
        → BestsAndMarks t run many (read_once read j) bests' (set marks j 1) leaves'
    once_new e room leaves' some_leaf =
        subst (λ (l : List ℕ). BestsAndMarks t run many l bests' (set marks j 1) leaves')
        (sym (once_is read j false (sym (k.mark_is j at.inside) ∙ e)))
        (record {
          best_is = λ i h. best_some leaves' (record_at bests' i) some_leaf ∙ best_after i h;
          mark_is = marks_more room;
        })
