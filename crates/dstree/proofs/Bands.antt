-- Document 02, §10: the true number in a band lies between the sure and the possible one. Each stored trace is in one leaf, and its distance
-- is between the leaf's bound and its upper figure; so the traces of the leaves that are sure lie in the band, and the leaves that are
-- possible have all that do. Lists of numbers without repetition are counted (`no_fewer`).
use Rattle.std.specs.Prelude.{if◌then◌else◌}
use Prim.Native.Nat.{ℕ, suc, ◌*◌, ◌-◌, ◌≤◌, ◌<◌}
use mathlib.Core.Path.{◌≡◌, refl, sym, ◌∙◌, ap, subst}
use mathlib.Core.Bool.{Bool, true, false}
use mathlib.Core.List.{List, [], ◌∷◌, map, flatten}
use native.Mathlib.Omega.{arith}
use lib.ListN.{length, get_or, length-map, length-append}
use lib.Dec.{T, leb, ltb, leb→le, le→leb, ltb→lt, lt→ltb}
use mir.Facts.{and_yes, yes_and}
use Rattle.integer.specs.Words.{those, total, counting, is_in}
use Rattle.integer.proofs.Tests.{is_true}
use Rattle.integer.proofs.Lists.{In, in_is, is_in_lem, InFlat, flat, from_flat, in_flat, from_those, in_those, in_counting}
use Rattle.integer.proofs.Lists.{from_counting, Up, up_those, counting_up, Apart, apart_none, apart_more, apart_append, up_same, no_fewer}
use Rattle.integer.proofs.Rows.{table_is}
use Rattle.segment.specs.Figures.{distance}
use Rattle.dstree.specs.Measures.{Trace}
use Rattle.dstree.specs.Node.{Tree, node_at}
use Rattle.dstree.specs.Formed.{Kept, Shape}
use Rattle.dstree.specs.Matching.{bound, is_leaf_kind, numbers_in, leaves}
use Rattle.dstree.specs.Claims.{of_leaf, numbers_among}
use Rattle.dstree.specs.Bands.{upper, Band, bands_of, in_band, is_sure, is_possible, traces_among, BandCount, band_count, band_report}
use Rattle.dstree.specs.Bands.{report_places, true_count, ReportClaims, ReportAnywhere, BandsOfExact}
use Rattle.dstree.proofs.Formed.{formed, numbers_up}
use Rattle.dstree.proofs.Containing.{Containing, of_exact}
use Rattle.dstree.proofs.Reading.{kept_leaf}
use Rattle.dstree.proofs.Bounds.{bound_at_most}
use Rattle.dstree.proofs.Upper.{upper_at_least}

-- ---- in a band

from_band : (band : Band) (d : ℕ) → T (in_band band d) → (band.start ≤ d) × (d < band.end)
from_band band d t =
    let h : T (leb band.start d) × T (ltb d band.end) = and_yes (leb band.start d) (ltb d band.end) t in
    (leb→le band.start d h.0, ltb→lt d band.end h.1)

to_band : (band : Band) (d : ℕ) → band.start ≤ d → d < band.end → T (in_band band d)
to_band band d h k = yes_and (leb band.start d) (ltb d band.end) (le→leb band.start d h) (lt→ltb d band.end k)

-- one band fewer than edges, and two places a band
pub bands_are : (edges : List ℕ) → length (bands_of edges) ≡ length edges - 1
unfolding bands_of
bands_are [] = omega arith
bands_are (a ∷ []) = omega arith
bands_are (a ∷ (b ∷ rest)) = omega (arith, bands_are (b ∷ rest))

pub places_are : (l : List BandCount) → length (report_places l) ≡ 2 * length l
unfolding report_places
places_are [] = omega arith
places_are (a ∷ l) = omega (arith, places_are l)

module _ (tree : Tree) (query : Trace) where
  -- what a sure leaf's bound and upper figure are
  record Sure (band : Band) (number : ℕ) : Type 0 where
    bound_in : (band.start ≤ bound tree query number) × (bound tree query number < band.end)
    upper_in : (band.start ≤ upper tree query number) × (upper tree query number < band.end)

  from_sure : (band : Band) (number : ℕ) → T (is_sure tree query band number) → Sure band number
  unfolding is_sure
  from_sure band number t =
      let h : T (in_band band (bound tree query number)) × T (in_band band (upper tree query number)) =
      and_yes (in_band band (bound tree query number)) (in_band band (upper tree query number)) t in
      record { bound_in = from_band band (bound tree query number) h.0; upper_in = from_band band (upper tree query number) h.1 }

  from_possible : (band : Band) (number : ℕ) → T (is_possible tree query band number)
      → (bound tree query number < band.end) × (band.start ≤ upper tree query number)
  unfolding is_possible
  from_possible band number t =
      let h : T (ltb (bound tree query number) band.end) × T (leb band.start (upper tree query number)) =
      and_yes (ltb (bound tree query number) band.end) (leb band.start (upper tree query number)) t in
      (ltb→lt (bound tree query number) band.end h.0, leb→le band.start (upper tree query number) h.1)

  to_possible : (band : Band) (number : ℕ) → bound tree query number < band.end → band.start ≤ upper tree query number
      → T (is_possible tree query band number)
  unfolding is_possible
  to_possible band number h k =
      yes_and (ltb (bound tree query number) band.end) (leb band.start (upper tree query number))
      (lt→ltb (bound tree query number) band.end h) (le→leb band.start (upper tree query number) k)

  sure_possible : (band : Band) (number : ℕ) → T (is_sure tree query band number) → T (is_possible tree query band number)
  sure_possible band number t = let s = from_sure band number t in to_possible band number s.bound_in.1 s.upper_in.0

  nowhere_else : (band other : Band) (number : ℕ) → T (is_sure tree query band number) → T (is_possible tree query other number)
      → (other.start < band.end) × (band.start < other.end)
  nowhere_else band other number t u =
      let s = from_sure band number t in
      let p = from_possible other number u in
      (omega (arith, p.1, s.upper_in.1), omega (arith, p.0, s.bound_in.0))

  -- more leaves, more traces
  more_traces : (f g : ℕ → Bool) → ((k : ℕ) → T (f k) → T (g k)) → (l : List ℕ) → traces_among tree (those f l) ≤ traces_among tree (those g l)
  unfolding traces_among those total
  more_traces f g h [] = omega arith
  more_traces f g h (k ∷ l) = by (f k) (g k) refl refl (more_traces f g h l)
    where
      by : (a b : Bool) → f k ≡ a → g k ≡ b → traces_among tree (those f l) ≤ traces_among tree (those g l)
          → traces_among tree (if a then k ∷ those f l else those f l) ≤ traces_among tree (if b then k ∷ those g l else those g l)
      by true true p q ih = omega arith
      by false true p q ih = omega arith
      by false false p q ih = ih
      by true false p q ih = absurd (subst T q (h k (is_true p)))

  pub report_claims : (edges : List ℕ) → ReportClaims tree query edges
  unfolding band_report band_count
  report_claims edges =
      let e : length (band_report tree query edges) ≡ length edges - 1 =
      length-map (bands_of edges) (band_count tree query) ∙ bands_are edges in
      record {
        one_each = e;
        places = places_are (band_report tree query edges) ∙ ap (λ (k : ℕ). 2 * k) e;
        sure_possible = sure_possible;
        no_more_sure = λ band. more_traces (is_sure tree query band) (is_possible tree query band) (sure_possible band) (leaves tree);
        nowhere_else = nowhere_else;
      }

pub report_anywhere : ReportAnywhere
report_anywhere tree query edges = report_claims tree query edges

-- "An empty library reports zeros": it has no node
empty_zeros : (tree : Tree) (query : Trace) → length tree ≡ 0 → (band : Band) → band_count tree query band ≡ record { sure = 0; possible = 0 }
unfolding band_count traces_among leaves counting those total
empty_zeros [] query e band = refl
empty_zeros (a ∷ tree) query e band = absurd (omega (arith, e))

-- ---- the numbers of some leaves' traces

numbers_length : (tree : Tree) (set : List ℕ) → length (numbers_among tree set) ≡ traces_among tree set
unfolding numbers_among flatten traces_among total
numbers_length tree [] = refl
numbers_length tree (k ∷ set) =
    length-append (numbers_in (node_at tree k).kind) (numbers_among tree set)
    ∙ (let e = numbers_length tree set in rw e)

module _ {n count : ℕ} {tree : Tree} (shape : Shape n count tree) where
  -- leaves that differ have no trace in common
  numbers_apart : {set : List ℕ} → Apart (λ (k : ℕ). k) set → Apart (λ (j : ℕ). j) (numbers_among tree set)
  unfolding numbers_among flatten
  numbers_apart apart_none = apart_none
  numbers_apart (apart_more {a = k} {l = set} h p) =
      apart_append (λ (j : ℕ). j) (up_same (numbers_up shape k)) (numbers_apart p)
      (λ a b i j. by a b i (from_flat (λ (m : ℕ). numbers_in (node_at tree m).kind) set j))
    where
      by : (a b : ℕ) → In a (numbers_in (node_at tree k).kind) → InFlat (λ (m : ℕ). numbers_in (node_at tree m).kind) b set → b ≡ a → ⊥
      by a b i (flat m j g) e =
          h m j (shape.one_leaf a m k (subst (λ (t : ℕ). T (is_in t (numbers_in (node_at tree m).kind))) e (in_is g)) (in_is i))

leaves_up : (tree : Tree) → Up 0 (leaves tree)
unfolding leaves
leaves_up tree = up_those (λ number. is_leaf_kind (node_at tree number).kind) (counting_up (length tree) 0)

-- ---- the true number, by the numbers of the traces

those_mapped : {A B : Type 0} (p : B → Bool) (f : A → B) (l : List A) → length (those p (map f l)) ≡ length (those (λ a. p (f a)) l)
unfolding those
those_mapped p f [] = refl
those_mapped p f (a ∷ l) = by (p (f a)) (those_mapped p f l)
  where
    by : (b : Bool) → length (those p (map f l)) ≡ length (those (λ c. p (f c)) l)
        → length (if b then f a ∷ those p (map f l) else those p (map f l)) ≡ length
        (if b then a ∷ those (λ c. p (f c)) l else those (λ c. p (f c)) l)
    by true ih = ap suc ih
    by false ih = ih

module _ (stored : List Trace) (query : Trace) where
  -- the numbers of the stored traces that lie in a band
  numbers_of : Band → List ℕ
  numbers_of band = those (λ t. in_band band (distance query (get_or stored t []))) (counting (length stored) 0)

  true_is : (band : Band) → true_count stored query band ≡ length (numbers_of band)
  unfolding true_count numbers_of
  true_is band =
      those_mapped (in_band band) (distance query) stored
      ∙ ap (λ (l : List Trace). length (those (λ x. in_band band (distance query x)) l))
      (sym (table_is (λ t. get_or stored t []) [] stored (length stored) refl (λ j h. refl)))
      ∙ those_mapped (λ x. in_band band (distance query x)) (λ t. get_or stored t []) (counting (length stored) 0)

-- ---- exact ranges

module _ (n : ℕ) (stored : List Trace) (tree : Tree) (c : Containing n stored tree)
    (all_n : (t : ℕ) → t < length stored → length (get_or stored t []) ≡ n) (query : Trace) (lq : length query ≡ n) (band : Band) where
  abbrev D : ℕ → ℕ
  D t = distance query (get_or stored t [])

  sure_true : (t : ℕ) → In t (numbers_among tree (those (is_sure tree query band) (leaves tree))) → In t (numbers_of stored query band)
  unfolding numbers_among numbers_of
  sure_true t i = by (from_flat (λ (k : ℕ). numbers_in (node_at tree k).kind) (those (is_sure tree query band) (leaves tree)) i)
    where
      by : InFlat (λ (k : ℕ). numbers_in (node_at tree k).kind) t (those (is_sure tree query band) (leaves tree)) → In t (numbers_of stored query band)
      by (flat k j g) =
          let s : Sure tree query band k = from_sure tree query band k (from_those (is_sure tree query band) (leaves tree) j).1 in
          in_those (λ u. in_band band (D u))
          (in_counting (length stored) 0 t (omega arith) (omega (arith, c.shape.numbers t k (in_is g))))
          (to_band band (D t)
          (omega (arith, s.bound_in.0, bound_at_most n stored tree c query all_n lq k t (of_leaf (in_is g))))
          (omega (arith, s.upper_in.1, upper_at_least n stored tree c query all_n lq k t (of_leaf (in_is g)))))

  true_possible : (t : ℕ) → In t (numbers_of stored query band) → In t (numbers_among tree (those (is_possible tree query band) (leaves tree)))
  unfolding numbers_among numbers_of
  true_possible t i =
      let h : In t (counting (length stored) 0) × T (in_band band (D t)) =
      from_those (λ u. in_band band (D u)) (counting (length stored) 0) i in
      by (from_band band (D t) h.1) (c.shape.kept t (omega (arith, from_counting (length stored) 0 h.0)))
    where
      by : (band.start ≤ D t) × (D t < band.end) → Kept tree t → In t (numbers_among tree (those (is_possible tree query band) (leaves tree)))
      by h k =
          in_flat (λ (j : ℕ). numbers_in (node_at tree j).kind)
          (in_those (is_possible tree query band) (kept_leaf k)
          (to_possible tree query band k.at
          (omega (arith, h.1, bound_at_most n stored tree c query all_n lq k.at t (of_leaf k.holds)))
          (omega (arith, h.0, upper_at_least n stored tree c query all_n lq k.at t (of_leaf k.holds)))))
          (is_in_lem t (numbers_in (node_at tree k.at).kind) k.holds)

  at_least_sure : (band_count tree query band).sure ≤ true_count stored query band
  unfolding band_count numbers_of
  at_least_sure =
      let set : List ℕ = those (is_sure tree query band) (leaves tree) in
      let h : length (numbers_among tree set) ≤ length (numbers_of stored query band) =
      no_fewer (λ (j : ℕ). j) (numbers_of stored query band)
      (numbers_apart c.shape (up_same (up_those (is_sure tree query band) (leaves_up tree)))) sure_true in
      omega (arith, h, numbers_length tree set, true_is stored query band)

  at_most_possible : true_count stored query band ≤ (band_count tree query band).possible
  unfolding band_count numbers_of
  at_most_possible =
      let set : List ℕ = those (is_possible tree query band) (leaves tree) in
      let h : length (numbers_of stored query band) ≤ length (numbers_among tree set) =
      no_fewer (λ (j : ℕ). j) (numbers_among tree set)
      (up_same (up_those (λ t. in_band band (D t)) (counting_up (length stored) 0))) true_possible in
      omega (arith, h, numbers_length tree set, true_is stored query band)

-- of any well-formed tree with exact ranges, whoever made it
pub bands_of_exact : BandsOfExact
bands_of_exact limit m stored tree e query lq =
    let c : Containing m.n stored tree =
    of_exact stored tree (formed limit m (length stored) tree e.well_formed_lem) e.ranges in
    record {
      bound_at_most = bound_at_most m.n stored tree c query e.of_n lq;
      upper_at_least = upper_at_least m.n stored tree c query e.of_n lq;
      at_least_sure = at_least_sure m.n stored tree c e.of_n query lq;
      at_most_possible = at_most_possible m.n stored tree c e.of_n query lq;
      empty_zeros = λ none. empty_zeros tree query (c.shape.no_node none);
    }
