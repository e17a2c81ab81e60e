-- The head of a record, by its kind field.
use Prim.Native.Nat.{ℕ, zero, suc, ◌+◌, ◌-◌, ◌≤◌, ◌<◌}
use mathlib.Core.Path.{◌≡◌, refl, ◌∙◌}
use mathlib.Core.Bool.{Bool, true, false, ◌&&◌}
use mathlib.Core.List.{List, []}
use native.Mathlib.Omega.{arith}
use native.Mathlib.Numerals.{add-one}
use lib.IntN.{ℤ}
use lib.Dec.{leb}
use borrow.Author.Tests.{lt-leb, le-leb}
use Rattle.integer.proofs.Tests.{and_true}
use Rattle.integer.specs.Words.{every}
use Rattle.dstree.specs.Measures.{sample_limit}
use Rattle.dstree.specs.Figures.{run}
use Rattle.dstree.specs.Node.{Figure, Kind, inner}
use Rattle.dstree.specs.WellFormed.{children_of, threshold_fits, test_fits}
use Rattle.tables.specs.Layout.{kind_place, first_place, right_place, run_first_place, run_last_place, threshold_place}
use Rattle.tables.specs.View.{value_at, small_at, test_in, kind_in}
use Rattle.records_fit.specs.Fits.{figure_named, child_fits, head_fits}

-- an inner node of this kind field
abbrev pub inner_named : List ℤ → ℕ → Kind
inner_named r kind = inner (test_in r (figure_named kind)) (small_at r first_place) (small_at r right_place)

pub kind_inner : (links : List ℕ) (count : ℕ) (r : List ℤ) (kind : ℕ) → (kind ≡ 0 → ⊥) → kind ≤ 2 → kind_in links count r kind ≡ inner_named r kind
unfolding kind_in
kind_inner links count r zero f h = absurd (f refl)
kind_inner links count r (suc zero) f h = refl
kind_inner links count r (suc (suc zero)) f h = refl
kind_inner links count r (suc (suc (suc k))) f h = absurd (omega arith)

module _ (n m j : ℕ) (r : List ℤ) where
  abbrev head_for : ℕ → Bool
  head_for kind = leb kind 2 && every (child_fits m j) (children_of (kind_in [] 0 r kind)) && test_fits sample_limit n (kind_in [] 0 r kind)

  leaf_fits : head_for 0 ≡ true
  unfolding kind_in children_of test_fits every
  leaf_fits = refl

  inner_fits : (kind : ℕ) → (kind ≡ 0 → ⊥) → kind ≤ 2 → head_for kind ≡ child_fits m j (small_at r first_place) && child_fits m j (small_at r right_place) && test_fits sample_limit n
      (inner_named r kind)
  unfolding children_of every
  inner_fits kind f h = rw (kind_inner [] 0 r kind f h, le-leb kind 2 h, and_true (child_fits m j (small_at r right_place)))

  pub head_leaf : small_at r kind_place ≡ 0 → head_fits n m j r ≡ true
  unfolding head_fits
  head_leaf e = rw e leaf_fits

  pub head_other : 2 < small_at r kind_place → head_fits n m j r ≡ false
  unfolding head_fits
  head_other h = rw (lt-leb (small_at r kind_place) 2 h)

  module _ (f : small_at r kind_place ≡ 0 → ⊥) (h : small_at r kind_place ≤ 2) where
    head_inner : head_fits n m j r ≡ child_fits m j (small_at r first_place) && child_fits m j (small_at r right_place) && test_fits sample_limit n (inner_named r (small_at r kind_place))
    unfolding head_fits
    head_inner = inner_fits (small_at r kind_place) f h

    pub head_left : child_fits m j (small_at r first_place) ≡ false → head_fits n m j r ≡ false
    head_left e = head_inner ∙ rw e

    module _ (e : child_fits m j (small_at r first_place) ≡ true) where
      pub head_right : child_fits m j (small_at r right_place) ≡ false → head_fits n m j r ≡ false
      head_right g = head_inner ∙ rw (e, g)

      pub head_test : child_fits m j (small_at r right_place) ≡ true → head_fits n m j r ≡ test_fits sample_limit n (inner_named r (small_at r kind_place))
      head_test g = head_inner ∙ rw (e, g)

-- ---- a test

module _ (n first last : ℕ) (figure : Figure) (threshold : ℤ) (left right : ℕ) where
  abbrev whole : Bool
  whole = test_fits sample_limit n (inner (record { on = run first last; figure = figure; threshold = threshold }) left right)

  pub test_early : first < 1 → false ≡ whole
  unfolding test_fits
  test_early h = rw (lt-leb 1 first h)

  module _ (f : 1 ≤ first) where
    pub test_falls : last < first → false ≡ whole
    unfolding test_fits
    test_falls h = rw (le-leb 1 first f, lt-leb first last h)

    module _ (g : first ≤ last) where
      pub test_late : n < last → false ≡ whole
      unfolding test_fits
      test_late h = rw (le-leb 1 first f, le-leb first last g, lt-leb last n h)

      pub test_threshold : last ≤ n → threshold_fits sample_limit figure (last + 1 - first) threshold ≡ whole
      unfolding test_fits
      test_threshold h = rw (le-leb 1 first f, le-leb first last g, le-leb last n h, add-one last)

-- the fields that were read are the test's
pub test_is : (n : ℕ) (r : List ℤ) {kind first last : ℕ} {threshold : ℤ} → kind ≡ small_at r kind_place → first ≡ small_at r run_first_place
    → last ≡ small_at r run_last_place → threshold ≡ value_at r threshold_place
    → test_fits sample_limit n (inner (record { on = run first last; figure = figure_named kind; threshold = threshold })
    (small_at r first_place) (small_at r right_place)) ≡ test_fits sample_limit n (inner_named r (small_at r kind_place))
unfolding test_in
test_is n r e f g h = rw (e, f, g, h)
