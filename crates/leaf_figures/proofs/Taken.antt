-- Figures that are taken one trace after another are the least and the greatest of all of them.
use Rattle.std.specs.Prelude.{if◌then◌else◌, Option, Some, None}
use mathlib.Core.Path.{◌≡◌, refl, ap, ◌∙◌}
use mathlib.Core.Bool.{Bool, true, false}
use mathlib.Core.List.{List, [], ◌∷◌, map, foldl, foldl-append, map-map}
use Prim.Native.Nat.{ℕ, ◌+◌, ◌≤◌, ◌<◌, min, max}
use native.Mathlib.Numerals.{add-one}
use native.Mathlib.Omega.{arith}
use lib.ListN.{length, get_or, take}
use lib.Seq.{take-suc}
use lib.IntN.{ℤ, nat_abs}
use lib.Signed.{lt_z}
use lib.Dec.{eqb}
use mir.Syntax.{w64}
use mir.Facts.{to_z-of_z}
use Rattle.integer.specs.Words.{lesser, greater, those, chosen, least_ℤ, greatest_ℤ, least, greatest}
use Rattle.integer.proofs.Width.{small, read}
use Rattle.segment.specs.Limits.{sum_most, scatter_most}
use Rattle.dstree.specs.Measures.{Trace, most_samples}
use Rattle.dstree.specs.Figures.{Run, sum_on, scatter_on}
use Rattle.dstree.specs.Node.{Segment}
use Rattle.dstree.specs.Adding.{segment_of, traces_of}
use Rattle.tables.specs.View.{trace_in}
use Rattle.leaf_figures.specs.Listed.{traces_at}
use Rattle.leaf_figures.specs.Sides.{marked, or_none, with_figures, SmallFigures, segment_by}
use Rattle.leaf_figures.specs.declared.sides.SideRange.{SideRange}

module _ (sum_at : ℕ → ℤ) (scatter_at : ℕ → ℕ) where
  abbrev taking : Option SideRange → ℕ → Option SideRange
  taking f t = Some (with_figures f (sum_at t) (scatter_at t))

  abbrev figures : ℤ → ℤ → ℕ → ℕ → Option SideRange
  figures a b c d = Some (record { least_sum = a; greatest_sum = b; least_scatter = c; greatest_scatter = d })

  more_taken : (a b : ℤ) (c d : ℕ) (l : List ℕ) → foldl taking (figures a b c d) l ≡ figures (foldl lesser a (map sum_at l)) (foldl greater b (map sum_at l))
      (foldl min c (map scatter_at l)) (foldl max d (map scatter_at l))
  unfolding with_figures
  more_taken a b c d [] = refl
  more_taken a b c d (t ∷ l) = more_taken (lesser a (sum_at t)) (greater b (sum_at t)) (min c (scatter_at t)) (max d (scatter_at t)) l

  abbrev segment : ℕ → List ℕ → Segment
  segment end l = record {
    end = end;
    least_sum = least_ℤ (map sum_at l);
    greatest_sum = greatest_ℤ (map sum_at l);
    least_scatter = least (map scatter_at l);
    greatest_scatter = greatest
        (map scatter_at l);
  }

  all_taken : (end : ℕ) (l : List ℕ) → segment_by end (or_none (foldl taking None l)) ≡ segment end l
  unfolding with_figures chosen
  all_taken end [] = refl
  all_taken end (t ∷ l) = ap (λ (f : Option SideRange). segment_by end (or_none f)) (more_taken (sum_at t) (sum_at t) (scatter_at t) (scatter_at t) l)

-- of a side's traces
module _ (stored : List Trace) (on : Run) (marks : List ℕ) (mark : ℕ) where
  -- one trace more, if it is on the side
  abbrev pub side_taking : Option SideRange → ℕ → Option SideRange
  side_taking f t = if eqb (get_or marks t 0) mark then Some (with_figures f (sum_on on (get_or stored t [])) (scatter_on on (get_or stored t []))) else f

  abbrev sums : ℕ → ℤ
  sums t = sum_on on (get_or stored t [])

  abbrev scatters : ℕ → ℕ
  scatters t = scatter_on on (get_or stored t [])

  on_side : (f : Option SideRange) (l : List ℕ) → foldl side_taking f l ≡ foldl (taking sums scatters) f (marked marks mark l)
  unfolding those
  on_side f [] = refl
  on_side f (t ∷ l) = by (eqb (get_or marks t 0) mark) (λ (g : Option SideRange). on_side g l)
    where
      by : (b : Bool) → ((g : Option SideRange) → foldl side_taking g l ≡ foldl (taking sums scatters) g (marked marks mark l))
          → foldl side_taking (if b then taking sums scatters f t else f) l ≡ foldl (taking sums scatters) f (if b then t ∷ marked marks mark l else marked marks mark l)
      by true rec = rec (taking sums scatters f t)
      by false rec = rec f

  pub side_taken : (numbers : List ℕ) → segment_by on.last (or_none (foldl side_taking None numbers)) ≡ segment_of (traces_of stored (marked marks mark numbers)) on
  unfolding segment_of
  side_taken numbers =
      ap (λ (f : Option SideRange). segment_by on.last (or_none f)) (on_side None numbers) ∙ all_taken sums scatters on.last (marked marks mark numbers)
      ∙ rw (map-map (sum_on on) (λ (number : ℕ). get_or stored number []) (marked marks mark numbers), map-map (scatter_on on) (λ (number : ℕ). get_or stored number []) (marked marks mark numbers))

-- one element more
pub fold_more : {A : Type 0} (step : A → ℕ → A) (a : A) (l : List ℕ) (i : ℕ) → i < length l → foldl step a (take (i + 1) l) ≡ step (foldl step a (take i l)) (get_or l i 0)
fold_more step a l i h = rw (add-one i, take-suc l i 0 h) (foldl-append step a (take i l) (get_or l i 0 ∷ []))

-- of the traces of a list
module _ (samples : List ℤ) (n : ℕ) (on : Run) where
  abbrev pub taking_at : Option SideRange → ℕ → Option SideRange
  taking_at f t = Some (with_figures f (sum_on on (trace_in samples n t)) (scatter_on on (trace_in samples n t)))

  pub along_taken : (numbers : List ℕ) → segment_by on.last (or_none (foldl taking_at None numbers)) ≡ segment_of (traces_at samples n numbers) on
  unfolding segment_of
  along_taken numbers =
      all_taken (λ t. sum_on on (trace_in samples n t)) (λ t. scatter_on on (trace_in samples n t)) on.last numbers
      ∙ rw (map-map (sum_on on) (trace_in samples n) numbers, map-map (scatter_on on) (trace_in samples n) numbers)

-- ---- sizes

lesser_small : (a b : ℤ) (m : ℕ) → nat_abs a ≤ m → nat_abs b ≤ m → nat_abs (lesser a b) ≤ m
lesser_small a b m h k = by (lt_z b a)
  where
    by : (t : Bool) → nat_abs (if t then b else a) ≤ m
    by true = k
    by false = h

greater_small : (a b : ℤ) (m : ℕ) → nat_abs a ≤ m → nat_abs b ≤ m → nat_abs (greater a b) ≤ m
greater_small a b m h k = by (lt_z a b)
  where
    by : (t : Bool) → nat_abs (if t then b else a) ≤ m
    by true = k
    by false = h

pub with_small : (f : Option SideRange) (s : ℤ) (v : ℕ) → SmallFigures (or_none f) → nat_abs s ≤ sum_most most_samples → v ≤ scatter_most most_samples → SmallFigures (with_figures f s v)
unfolding with_figures
with_small None s v h hs hv = record { least_sum_lem = hs; greatest_sum_lem = hs; least_scatter_lem = hv; greatest_scatter_lem = hv }
with_small (Some f) s v h hs hv = record {
  least_sum_lem = lesser_small f.least_sum s (sum_most most_samples) h.least_sum_lem hs;
  greatest_sum_lem = greater_small f.greatest_sum s (sum_most most_samples) h.greatest_sum_lem hs;
  least_scatter_lem = omega (arith, h.least_scatter_lem);
  greatest_scatter_lem = omega (arith, h.greatest_scatter_lem);
}

-- ---- the sums of small figures, read back

module _ (f : SideRange) (m : SmallFigures f) where
  pub least_back : read w64 f.least_sum ≡ f.least_sum
  least_back = to_z-of_z (small {w = w64} {z = f.least_sum} (omega (arith, m.least_sum_lem)))

  pub greatest_back : read w64 f.greatest_sum ≡ f.greatest_sum
  greatest_back = to_z-of_z (small {w = w64} {z = f.greatest_sum} (omega (arith, m.greatest_sum_lem)))
