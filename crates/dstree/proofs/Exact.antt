-- Each least and greatest that a node records is the figure of a trace below it; with what is covered (`Ranges`) that makes the records
-- exact. Widening takes the old figure or the new trace's, a new leaf one of its own traces'.
use Prim.Native.Nat.{ℕ, suc, ◌<◌, min, max}
use mathlib.Core.Path.{◌≡◌, sym, ◌∙◌, ap, subst}
use mathlib.Core.Logic.{◌⊎◌, inl, inr}
use mathlib.Core.List.{List, [], ◌∷◌, map}
use lib.ListN.{length, get_or, length-map}
use lib.IntN.{pos}
use Rattle.integer.specs.Words.{lesser, greater, chosen}
use Rattle.integer.proofs.Lists.{In, first, later, InMap, of, from_map, chosen_in, lesser_either, greater_either, min_either, max_either, set_cases}
use Rattle.dstree.specs.Measures.{Trace}
use Rattle.dstree.specs.Figures.{Run, run, sum_on, scatter_on}
use Rattle.dstree.specs.Node.{Segment, Node, Tree, node_at, change_at, change_all}
use Rattle.dstree.specs.Adding.{widen_segment, widen, widen_all, segment_of, segments_from, traces_of, new_leaf}
use Rattle.dstree.specs.Claims.{Extreme, AllExact, exact_none, exact_more}
use Rattle.dstree.proofs.Ranges.{CoveredOn, Covered, covered_none, covered_more}
use Rattle.dstree.proofs.Formed.{empty_leaf}

-- a is the figure v of a trace of P
pub record Of {A : Type 0} (P : ℕ → Type 0) (v : ℕ → A) (a : A) : Type 0 where
  pub trace : ℕ
  pub below : P trace
  pub is : a ≡ v trace

-- each of a segment's limits is a figure of a trace of P
pub record Reached (stored : List Trace) (P : ℕ → Type 0) (on : Run) (s : Segment) : Type 0 where
  pub least_sum_lem : Of P (λ (t : ℕ). sum_on on (get_or stored t [])) s.least_sum
  pub greatest_sum_lem : Of P (λ (t : ℕ). sum_on on (get_or stored t [])) s.greatest_sum
  pub least_scatter_lem : Of P (λ (t : ℕ). scatter_on on (get_or stored t [])) s.least_scatter
  pub greatest_scatter_lem : Of P (λ (t : ℕ). scatter_on on (get_or stored t [])) s.greatest_scatter

pub data AllReached (stored : List Trace) (P : ℕ → Type 0) : ℕ → List Segment → Type 0 where
  reached_none : {from : ℕ} → AllReached stored P from []
  reached_more : {from : ℕ} {s : Segment} {rest : List Segment} → Reached stored P (run from s.end) s → AllReached stored P (suc s.end) rest → AllReached stored P from (s ∷ rest)

-- ---- other traces stored, more of them below

module _ (stored other : List Trace) (P Q : ℕ → Type 0) (more : (t : ℕ) → P t → Q t) (same : (t : ℕ) → P t → get_or other t [] ≡ get_or stored t []) where
  pub of_more : {A : Type 0} (f : Trace → A) (a : A) → Of P (λ (t : ℕ). f (get_or stored t [])) a → Of Q (λ (t : ℕ). f (get_or other t [])) a
  of_more f a o = record { trace = o.trace; below = more o.trace o.below; is = o.is ∙ ap f (sym (same o.trace o.below)) }

  pub reached_by_more : {from : ℕ} {l : List Segment} → AllReached stored P from l → AllReached other Q from l
  reached_by_more reached_none = reached_none
  reached_by_more (reached_more {from} {s} r w) =
      reached_more
      (record {
        least_sum_lem = of_more (sum_on (run from s.end)) s.least_sum r.least_sum_lem;
        greatest_sum_lem = of_more (sum_on (run from s.end)) s.greatest_sum r.greatest_sum_lem;
        least_scatter_lem = of_more (scatter_on (run from s.end)) s.least_scatter r.least_scatter_lem;
        greatest_scatter_lem = of_more (scatter_on (run from s.end)) s.greatest_scatter r.greatest_scatter_lem;
      })
      (reached_by_more w)

-- ---- widening

module _ (stored : List Trace) (x : Trace) (number : ℕ) (at_number : get_or stored number [] ≡ x) where
  of_choice : {A : Type 0} (P : ℕ → Type 0) → P number → (f : Trace → A) (a c : A) → (c ≡ a) ⊎ (c ≡ f x) → Of P (λ (t : ℕ). f (get_or stored t [])) a → Of P (λ (t : ℕ). f (get_or stored t [])) c
  of_choice P p f a c (inl e) o = record { trace = o.trace; below = o.below; is = e ∙ o.is }
  of_choice P p f a c (inr e) o = record { trace = number; below = p; is = e ∙ ap f (sym at_number) }

  changed_reached : (P : ℕ → Type 0) → P number → {from : ℕ} {l : List Segment} → AllReached stored P from l → AllReached stored P from (change_all (widen_segment x) from l)
  unfolding change_all widen_segment
  changed_reached P p reached_none = reached_none
  changed_reached P p (reached_more {from} {s} r w) =
      reached_more
      (record {
        least_sum_lem = of_choice P p (sum_on (run from s.end)) s.least_sum _ (lesser_either s.least_sum (sum_on (run from s.end) x)) r.least_sum_lem;
        greatest_sum_lem = of_choice P p (sum_on (run from s.end)) s.greatest_sum _ (greater_either s.greatest_sum (sum_on (run from s.end) x)) r.greatest_sum_lem;
        least_scatter_lem = of_choice P p (scatter_on (run from s.end)) s.least_scatter _ (min_either s.least_scatter (scatter_on (run from s.end) x)) r.least_scatter_lem;
        greatest_scatter_lem = of_choice P p (scatter_on (run from s.end)) s.greatest_scatter _ (max_either s.greatest_scatter (scatter_on (run from s.end) x)) r.greatest_scatter_lem;
      })
      (changed_reached P p w)

  pub widen_reached : (P : ℕ → ℕ → Type 0) (met : List ℕ) (tree : Tree) → ((k : ℕ) → In k met → P k number)
      → ((k : ℕ) → AllReached stored (P k) 1 (node_at tree k).segments) → (k : ℕ) → AllReached stored (P k) 1 (node_at (widen_all x met tree) k).segments
  unfolding widen_all widen
  widen_reached P [] tree on all k = all k
  widen_reached P (at ∷ rest) tree on all k =
      widen_reached P rest (change_at tree at (widen x)) (λ k i. on k (later i))
      (λ k. set_cases empty_leaf (λ (a : Node). AllReached stored (P k) 1 a.segments) tree at (widen x (node_at tree at)) k
      (λ e h. changed_reached (P k) (rw e (on at first)) (subst (λ (j : ℕ). AllReached stored (P k) 1 (node_at tree j).segments) e (all k))) (λ f h. all k) (λ h. reached_none)) k

-- ---- a new leaf

module _ (stored : List Trace) (numbers : List ℕ) (one : 0 < length numbers) where
  pub of_chosen : {A : Type 0} (f : Trace → A) (choice : A → A → A) (either : (a b : A)
      → (choice a b ≡ a) ⊎ (choice a b ≡ b)) (other : A) → Of (λ (t : ℕ). In t numbers) (λ (t : ℕ). f (get_or stored t [])) (chosen choice other (map f (traces_of stored numbers)))
  of_chosen {A} f choice either other = by
      (from_map f (traces_of stored numbers)
      (chosen_in choice either other (map f (traces_of stored numbers)) (rw (length-map (traces_of stored numbers) f, length-map numbers (λ (k : ℕ). get_or stored k [])) one)))
    where
      to : (c : A) (y : Trace) → c ≡ f y → InMap (λ (k : ℕ). get_or stored k []) y numbers → Of (λ (t : ℕ). In t numbers) (λ (t : ℕ). f (get_or stored t [])) c
      to c y e (of t i p) = record { trace = t; below = i; is = e ∙ ap f p }

      by : InMap f (chosen choice other (map f (traces_of stored numbers))) (traces_of stored numbers)
          → Of (λ (t : ℕ). In t numbers) (λ (t : ℕ). f (get_or stored t [])) (chosen choice other (map f (traces_of stored numbers)))
      by (of y i e) = to (chosen choice other (map f (traces_of stored numbers))) y e (from_map (λ (k : ℕ). get_or stored k []) numbers i)

  pub from_reached : (from : ℕ) (es : List ℕ) → AllReached stored (λ (t : ℕ). In t numbers) from (segments_from from es (traces_of stored numbers))
  unfolding segments_from segment_of
  from_reached from [] = reached_none
  from_reached from (e ∷ es) =
      reached_more
      (record {
        least_sum_lem = of_chosen (sum_on (run from e)) lesser lesser_either (pos 0);
        greatest_sum_lem = of_chosen (sum_on (run from e)) greater greater_either (pos 0);
        least_scatter_lem = of_chosen (scatter_on (run from e)) min min_either 0;
        greatest_scatter_lem = of_chosen (scatter_on (run from e)) max max_either 0;
      })
      (from_reached (suc e) es)

  pub new_reached : (es : List ℕ) → AllReached stored (λ (t : ℕ). In t numbers) 1 (new_leaf stored es numbers).segments
  unfolding new_leaf
  new_reached es = from_reached 1 es

-- ---- covered and reached

covered_head : {x : Trace} {from : ℕ} {s : Segment} {rest : List Segment} → Covered x from (s ∷ rest) → CoveredOn x (run from s.end) s
covered_head (covered_more h w) = h

covered_tail : {x : Trace} {from : ℕ} {s : Segment} {rest : List Segment} → Covered x from (s ∷ rest) → Covered x (suc s.end) rest
covered_tail (covered_more h w) = w

-- "the least and greatest sum and scatter" of the traces of P, exactly
pub exact : (stored : List Trace) (P : ℕ → Type 0) {from : ℕ} {l : List Segment} → AllReached stored P from l → ((t : ℕ) → P t → Covered (get_or stored t []) from l) → AllExact stored P from l
exact stored P reached_none cover = exact_none
exact stored P (reached_more r w) cover =
    exact_more
    (record {
      least_sum_lem = record { trace = r.least_sum_lem.trace; is_one = r.least_sum_lem.below; has = r.least_sum_lem.is; none_beyond = λ t p. (covered_head (cover t p)).sum_low };
      greatest_sum_lem = record { trace = r.greatest_sum_lem.trace; is_one = r.greatest_sum_lem.below; has = r.greatest_sum_lem.is; none_beyond = λ t p. (covered_head (cover t p)).sum_high };
      least_scatter_lem = record { trace = r.least_scatter_lem.trace; is_one = r.least_scatter_lem.below; has = r.least_scatter_lem.is; none_beyond = λ t p. (covered_head (cover t p)).scatter_low };
      greatest_scatter_lem = record {
        trace = r.greatest_scatter_lem.trace;
        is_one = r.greatest_scatter_lem.below;
        has = r.greatest_scatter_lem.is;
        none_beyond = λ t p.
            (covered_head (cover t p)).scatter_high;
      };
    })
    (exact stored P w (λ t p. covered_tail (cover t p)))

-- .. and back
pub exact_reached : {stored : List Trace} {P : ℕ → Type 0} {from : ℕ} {l : List Segment} → AllExact stored P from l → AllReached stored P from l
exact_reached exact_none = reached_none
exact_reached {stored} {P} (exact_more e w) =
    reached_more
    (record {
      least_sum_lem = of_extreme e.least_sum_lem;
      greatest_sum_lem = of_extreme e.greatest_sum_lem;
      least_scatter_lem = of_extreme e.least_scatter_lem;
      greatest_scatter_lem = of_extreme e.greatest_scatter_lem;
    })
    (exact_reached w)
  where
    of_extreme : {A : Type 0} {R : A → A → Type 0} {v : ℕ → A} {a : A} → Extreme R P v a → Of P v a
    of_extreme x = record { trace = x.trace; below = x.is_one; is = x.has }

pub exact_covers : {stored : List Trace} {P : ℕ → Type 0} {from : ℕ} {l : List Segment} {t : ℕ} → AllExact stored P from l → P t
    → Covered (get_or stored t []) from l
exact_covers exact_none p = covered_none
exact_covers {t = t} (exact_more e w) p =
    covered_more
    (record {
      sum_low = e.least_sum_lem.none_beyond t p;
      sum_high = e.greatest_sum_lem.none_beyond t p;
      scatter_low = e.least_scatter_lem.none_beyond t p;
      scatter_high = e.greatest_scatter_lem.none_beyond t p;
    })
    (exact_covers w p)
