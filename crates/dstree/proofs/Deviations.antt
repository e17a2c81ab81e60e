-- Document 02 §4, scatter tests at the middle of the deviations: T, when a candidate by scatter parts a leaf, and where least and greatest
-- go. The floor root keeps the order, so that the least of some roots is the root of the least, and the greatest that of the greatest. All
-- else is `Parting`, which holds of any figure.
use Prim.Native.Nat.{ℕ, ◌+◌, ◌*◌, ◌≤◌, min, max}
use mathlib.Core.Path.{◌≡◌, refl, sym, ap, ap₂, ◌∙◌}
use mathlib.Core.Bool.{true, not}
use mathlib.Core.List.{List, [], ◌∷◌, map, foldl}
use native.Mathlib.Omega.{arith}
use native.Mathlib.Decide.{dec_le}
use lib.IntN.{ℤ, pos, ◌+ℤ◌}
use lib.Dec.{ltb, leb, eqb}
use lib.Signed.{lt_z}
use borrow.Author.Tests.{lt-ltb, le-ltb, le-leb, lt-leb, eq-eqb, ne_eqb}
use Rattle.integer.specs.Words.{lesser, greater, chosen, least, greatest, least_ℤ, greatest_ℤ}
use Rattle.integer.proofs.Lists.{first, lesser_pos, greater_pos, least_low, greatest_high}
use Rattle.segment.specs.Roots.{falling_from, floor_root}
use Rattle.segment.proofs.Newton.{floor_mono, floor_min, floor_max}
use Rattle.dstree.specs.Measures.{Trace}
use Rattle.dstree.specs.Figures.{Run, scatter_on}
use Rattle.dstree.specs.Node.{by_scatter, figure_of, sends_left}
use Rattle.dstree.specs.Adding.{Candidate, traces_of, threshold_of, test_of, split_by, parts}
use Rattle.dstree.specs.Claims.{ByDeviation, Deviations}
use Rattle.dstree.proofs.Parting.{parting}

-- ---- the least and the greatest root

module _ {A : Type 0} (f : A → ℕ) where
  abbrev root : A → ℤ
  root x = pos (floor_root (f x))

  fold_least : (a : ℕ) (l : List A) → foldl lesser (pos (floor_root a)) (map root l) ≡ pos (floor_root (foldl min a (map f l)))
  fold_least a [] = refl
  fold_least a (x ∷ l) =
      ap (λ (z : ℤ). foldl lesser z (map root l)) (lesser_pos (floor_root a) (floor_root (f x)) ∙ ap pos (floor_min a (f x)))
      ∙ fold_least (min a (f x)) l

  fold_greatest : (a : ℕ) (l : List A) → foldl greater (pos (floor_root a)) (map root l) ≡ pos (floor_root (foldl max a (map f l)))
  fold_greatest a [] = refl
  fold_greatest a (x ∷ l) =
      ap (λ (z : ℤ). foldl greater z (map root l)) (greater_pos (floor_root a) (floor_root (f x)) ∙ ap pos (floor_max a (f x)))
      ∙ fold_greatest (max a (f x)) l

  least_root : (l : List A) → least_ℤ (map root l) ≡ pos (floor_root (least (map f l)))
  unfolding chosen floor_root falling_from
  least_root [] = refl
  least_root (x ∷ l) = fold_least (f x) l

  greatest_root : (l : List A) → greatest_ℤ (map root l) ≡ pos (floor_root (greatest (map f l)))
  unfolding chosen floor_root falling_from
  greatest_root [] = refl
  greatest_root (x ∷ l) = fold_greatest (f x) l

-- .. of scatters, as a test by scatter compares them
module _ (on : Run) (traces : List Trace) where
  pub least_deviation : least_ℤ (map (figure_of by_scatter on) traces) ≡ pos (floor_root (least (map (scatter_on on) traces)))
  unfolding figure_of
  least_deviation = least_root (scatter_on on) traces

  pub greatest_deviation : greatest_ℤ (map (figure_of by_scatter on) traces) ≡ pos (floor_root (greatest (map (scatter_on on) traces)))
  unfolding figure_of
  greatest_deviation = greatest_root (scatter_on on) traces

  threshold : threshold_of by_scatter on traces ≡ pos (floor_root (least (map (scatter_on on) traces)) + floor_root (greatest (map (scatter_on on) traces)))
  unfolding threshold_of
  threshold = ap₂ ◌+ℤ◌ least_deviation greatest_deviation

-- ---- two roots in order

module _ (l g : ℕ) (ordered : l ≤ g) where
  differ : ltb l g ≡ not (eqb l g)
  differ = by (dec_le g l)
    where
      by : Dec (g ≤ l) → ltb l g ≡ not (eqb l g)
      by (yes h) = rw (le-ltb l g h, eq-eqb l g (omega arith))
      by (no f) = rw (lt-ltb l g (omega arith), ne_eqb l g (λ e. f (omega arith)))

  least_goes : leb (2 * l) (l + g) ≡ true
  least_goes = le-leb (2 * l) (l + g) (omega arith)

  greatest_goes : leb (2 * g) (l + g) ≡ not (ltb l g)
  greatest_goes = by (dec_le g l)
    where
      by : Dec (g ≤ l) → leb (2 * g) (l + g) ≡ not (ltb l g)
      by (yes h) = rw (le-ltb l g h, le-leb (2 * g) (l + g) (omega arith))
      by (no f) = rw (lt-ltb l g (omega arith), lt-leb (2 * g) (l + g) (omega arith))

least_most : (l : List ℕ) → least l ≤ greatest l
unfolding chosen
least_most [] = omega arith
least_most (x ∷ l) = omega (arith, least_low {l = x ∷ l} first, greatest_high {l = x ∷ l} first)

-- ---- a candidate by scatter

module _ (stored : List Trace) (numbers : List ℕ) (c : Candidate) (e : c.figure ≡ by_scatter) where
  abbrev traces : List Trace
  traces = traces_of stored numbers

  abbrev low : ℕ
  low = floor_root (least (map (scatter_on c.on) traces))

  abbrev high : ℕ
  high = floor_root (greatest (map (scatter_on c.on) traces))

  ordered : low ≤ high
  ordered = floor_mono (least_most (map (scatter_on c.on) traces))

  parts_by : parts (split_by stored numbers c) ≡ ltb low high
  parts_by = parting stored numbers c ∙ rw e (ap₂ lt_z (least_deviation c.on traces) (greatest_deviation c.on traces))

  goes_by : (x : Trace) → sends_left (split_by stored numbers c).test x ≡ leb (2 * floor_root (scatter_on c.on x)) (low + high)
  unfolding split_by test_of sends_left figure_of
  goes_by x = rw (e, threshold c.on traces)

  by_deviation : ByDeviation stored numbers c (map (scatter_on c.on) traces)
  unfolding split_by test_of
  by_deviation = record {
    threshold_is = rw e (threshold c.on traces);
    parts_is = parts_by ∙ differ low high ordered;
    equal_roots = λ x y r. goes_by x ∙ ap (λ (k : ℕ). leb (2 * k) (low + high)) r ∙ sym (goes_by y);
    least_left = λ x r. goes_by x ∙ ap (λ (v : ℕ). leb (2 * floor_root v) (low + high)) r ∙ least_goes low high ordered;
    greatest_right = λ x r.
        goes_by x ∙ ap (λ (v : ℕ). leb (2 * floor_root v) (low + high)) r
        ∙ greatest_goes low high ordered ∙ ap not (sym parts_by);
  }

pub deviations : Deviations
deviations = by_deviation
