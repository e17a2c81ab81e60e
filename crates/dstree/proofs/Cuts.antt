-- A node's right ends part the samples 1 to n, 16 segments at most, and so do a candidate's, which include the node's own.
-- The idea: a cut lies inside a segment and is not its last sample, so that both halves have a sample.
use Rattle.std.specs.Prelude.{if◌then◌else◌}
use Prim.Native.Nat.{ℕ, suc, ◌-◌, ◌≤◌, ◌<◌}
use mathlib.Core.Path.{◌≡◌, refl, sym, ◌∙◌, ap}
use mathlib.Core.Bool.{Bool, true, false, ◌&&◌}
use mathlib.Core.List.{List, [], ◌∷◌, ◌++◌}
use native.Mathlib.Omega.{arith}
use lib.ListN.{length, get_or-eq_default}
use lib.Dec.{ltb, leb}
use borrow.Author.Tests.{ltb-true, ltb-false, leb-true}
use Rattle.integer.proofs.Lists.{In, first, later, in_nil, All, all_none, all_more, all_append, set_cases}
use Rattle.dstree.specs.Measures.{Trace}
use Rattle.dstree.specs.Figures.{Run, run}
use Rattle.dstree.specs.Node.{Segment, Node, Tree, node_at, change_at, ends, change_all}
use Rattle.dstree.specs.Adding.{widen_segment, widen, widen_all, segment_of, segments_from, new_leaf, Candidate, by_either, cut_at, left_half_end, halves, candidates_from, candidates}
use Rattle.dstree.proofs.Formed.{empty_leaf}
use Rattle.dstree.specs.Formed.{Parted, p_last, p_more, Rises, rises_none, rises_more, Fits, RunIn}

parted_low : {n from : ℕ} {l : List ℕ} → Parted n from l → from ≤ n
parted_low (p_last h) = h
parted_low (p_more h p) = omega (arith, parted_low p)

parted_end : {n from e : ℕ} {l : List ℕ} → Parted n from l → In e l → e ≤ n
parted_end (p_last h) first = omega arith
parted_end (p_last h) (later i) = absurd (in_nil i)
parted_end (p_more h p) first = omega (arith, parted_low p)
parted_end (p_more h p) (later i) = parted_end p i

-- no end lies behind sample n
pub ends_low : {n e : ℕ} {es : List ℕ} → Fits n es → In e es → e ≤ n
ends_low f i = parted_end f.parted i

pub parted_rises : {n from : ℕ} {l : List ℕ} → Parted n from l → Rises n from l
parted_rises (p_last h) = rises_more h (omega arith) rises_none
parted_rises (p_more h p) = rises_more h (omega (arith, parted_low p)) (parted_rises p)

-- ---- a cut

-- m is in a segment, and not its last
data Inside (m : ℕ) : ℕ → List ℕ → Type 0 where
  in_this : {from e : ℕ} {rest : List ℕ} → from ≤ m → m < e → Inside m from (e ∷ rest)
  in_later : {from e : ℕ} {rest : List ℕ} → Inside m (suc e) rest → Inside m from (e ∷ rest)

inside_low : {n m from : ℕ} {l : List ℕ} → Parted n from l → Inside m from l → from ≤ m
inside_low p (in_this h k) = h
inside_low (p_more h p) (in_later i) = omega (arith, inside_low p i)
inside_low (p_last _) (in_later i) = elim i [ ]

later_from : {n from e : ℕ} {rest : List ℕ} (m : ℕ) → m < e → Parted n from (e ∷ rest) → Parted n (suc m) (e ∷ rest)
later_from m h (p_last k) = p_last h
later_from m h (p_more k p) = p_more h p

cut_parted : {n m from : ℕ} {l : List ℕ} → Parted n from l → Inside m from l → Parted n from (cut_at m l)
unfolding cut_at
cut_parted {n} {m} {from} p (in_this {e} {rest} h k) = by (ltb m e) refl
  where
    by : (b : Bool) → ltb m e ≡ b → Parted n from (if b then m ∷ e ∷ rest else e ∷ cut_at m rest)
    by true q = p_more h (later_from m k p)
    by false q = absurd (omega (arith, ltb-false m e q))
cut_parted {n} {m} {from} (p_more h p) (in_later {e} {rest} i) = by (ltb m e) refl (cut_parted p i)
  where
    by : (b : Bool) → ltb m e ≡ b → Parted n (suc e) (cut_at m rest) → Parted n from (if b then m ∷ e ∷ rest else e ∷ cut_at m rest)
    by true q ih = absurd (omega (arith, ltb-true m e q, inside_low p i))
    by false q ih = p_more h ih
cut_parted (p_last _) (in_later i) = elim i [ ]

cut_length : (m : ℕ) (l : List ℕ) → length (cut_at m l) ≡ suc (length l)
unfolding cut_at
cut_length m [] = refl
cut_length m (e ∷ l) = by (ltb m e) (cut_length m l)
  where
    by : (b : Bool) → length (cut_at m l) ≡ suc (length l) → length (if b then m ∷ e ∷ l else e ∷ cut_at m l) ≡ suc (suc (length l))
    by true q = refl
    by false q = ap suc q

-- a cut takes no end away
cut_keeps : (m : ℕ) {e : ℕ} {l : List ℕ} → In e l → In e (cut_at m l)
unfolding cut_at
cut_keeps m {e} (first {rest}) = by (ltb m e)
  where
    by : (b : Bool) → In e (if b then m ∷ e ∷ rest else e ∷ cut_at m rest)
    by true = later first
    by false = first
cut_keeps m {e} (later {b = d} {rest} i) = by (ltb m d) (cut_keeps m i)
  where
    by : (b : Bool) → In e (cut_at m rest) → In e (if b then m ∷ d ∷ rest else d ∷ cut_at m rest)
    by true j = later (later i)
    by false j = later j

-- ---- candidates

-- a candidate of a node with the right ends `all`
pub record FitsAs (n : ℕ) (all : List ℕ) (c : Candidate) : Type 0 where
  pub child_fits : Fits n c.child_ends
  -- "a child's ends including its parent's"
  pub ends_kept_lem : (e : ℕ) → In e all → In e c.child_ends
  pub run_in : RunIn n c.on

module _ (n : ℕ) (all : List ℕ) (fits : Fits n all) where
  either_fits : (r : Run) (es : List ℕ) → Fits n es → ((e : ℕ) → In e all → In e es) → RunIn n r → All (FitsAs n all) (by_either r es)
  unfolding by_either
  either_fits r es f k i = all_more (record { child_fits = f; ends_kept_lem = k; run_in = i }) (all_more (record { child_fits = f; ends_kept_lem = k; run_in = i }) all_none)

  middle_in : (from e : ℕ) → 2 ≤ suc e - from → (from ≤ left_half_end (run from e)) × (left_half_end (run from e) < e)
  unfolding left_half_end
  middle_in from e h = (omega arith, omega arith)

  halves_fit : (from e : ℕ) → 1 ≤ from → e ≤ n → ((m : ℕ) → from ≤ m → m < e → Inside m 1 all) → All (FitsAs n all) (halves all (run from e))
  unfolding halves
  halves_fit from e one low inside = by (ltb (length all) 16) (leb 2 (suc e - from)) refl refl
    where
      middle : ℕ
      middle = left_half_end (run from e)

      by : (b c : Bool) → ltb (length all) 16 ≡ b → leb 2 (suc e - from) ≡ c
          → All (FitsAs n all) (if b && c then by_either (run from middle) (cut_at middle all) ++ by_either (run (suc middle) e) (cut_at middle all) else [])
      by true true p q =
          let k : (from ≤ middle) × (middle < e) = middle_in from e (leb-true 2 (suc e - from) q) in
          let f : Fits n (cut_at middle all) = record { parted = cut_parted fits.parted (inside middle k.0 k.1); few = rw (cut_length middle all) (ltb-true (length all) 16 p) } in
          all_append
          (either_fits _ _ f (λ e i. cut_keeps middle i) (record { from_1 = one; rises = k.0; to_n = omega (arith, k.1) }))
          (either_fits _ _ f (λ e i. cut_keeps middle i) (record { from_1 = omega (arith, k.0); rises = k.1; to_n = low }))
      by true false p q = all_none
      by false c p q = all_none

  from_fits : (from : ℕ) (l : List ℕ) → 1 ≤ from → Rises n from l → ((m : ℕ) → Inside m from l → Inside m 1 all) → All (FitsAs n all) (candidates_from all from l)
  unfolding candidates_from
  from_fits from [] one rises_none inside = all_none
  from_fits from (e ∷ rest) one (rises_more h k r) inside =
      all_append
      (all_append (either_fits (run from e) all fits (λ e i. i) (record { from_1 = one; rises = h; to_n = k })) (halves_fit from e one k (λ m h k. inside m (in_this h k))))
      (from_fits (suc e) rest (omega arith) r (λ m i. inside m (in_later i)))

  pub candidates_fit : All (FitsAs n all) (candidates all)
  candidates_fit = from_fits 1 all (omega arith) (parted_rises fits.parted) (λ m i. i)

-- ---- the right ends of what adding makes

changed_ends : (x : Trace) (from : ℕ) (l : List Segment) → ends (change_all (widen_segment x) from l) ≡ ends l
unfolding change_all widen_segment
changed_ends x from [] = refl
changed_ends x from (s ∷ rest) = ap (λ (r : List ℕ). s.end ∷ r) (changed_ends x (suc s.end) rest)

pub widen_ends : (x : Trace) (met : List ℕ) (tree : Tree) (k : ℕ) → ends (node_at (widen_all x met tree) k).segments ≡ ends (node_at tree k).segments
unfolding widen_all widen
widen_ends x [] tree k = refl
widen_ends x (at ∷ rest) tree k =
    widen_ends x rest (change_at tree at (widen x)) k
    ∙ set_cases empty_leaf (λ (n : Node). ends n.segments ≡ ends (node_at tree k).segments) tree at (widen x (node_at tree at)) k
    (λ e h. changed_ends x 1 (node_at tree at).segments ∙ ap (λ (j : ℕ). ends (node_at tree j).segments) (sym e)) (λ f h. refl)
    (λ h. ap (λ (n : Node). ends n.segments) (sym (get_or-eq_default tree empty_leaf h)))

from_ends : (from : ℕ) (es : List ℕ) (traces : List Trace) → ends (segments_from from es traces) ≡ es
unfolding segments_from segment_of
from_ends from [] traces = refl
from_ends from (e ∷ es) traces = ap (λ (r : List ℕ). e ∷ r) (from_ends (suc e) es traces)

pub new_ends : (stored : List Trace) (es numbers : List ℕ) → ends (new_leaf stored es numbers).segments ≡ es
unfolding new_leaf
new_ends stored es numbers = from_ends 1 es _
