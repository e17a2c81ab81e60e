-- Segments one by one: what is left of a record's segments from segment i on, and what a rule says of it.
use Rattle.std.specs.Prelude.{if◌then◌else◌}
use Prim.Native.Nat.{ℕ, zero, suc, ◌+◌, ◌-◌, ◌≤◌, ◌<◌}
use mathlib.Core.Path.{◌≡◌, refl, sym, ◌∙◌, ap, subst}
use mathlib.Core.Bool.{Bool, true, false, not, ◌&&◌}
use mathlib.Core.Logic.{◌⊎◌, inl, inr}
use mathlib.Core.List.{List, [], ◌∷◌, foldl}
use native.Mathlib.Omega.{arith}
use native.Mathlib.Numerals.{add-one}
use lib.ListN.{length, length-map}
use lib.IntN.{ℤ, pos, negsuc}
use lib.Signed.{le_z}
use lib.Dec.{T, leb, ltb, eqb, leb→le, ltb→lt}
use mir.Facts.{and_yes as and_both}
use borrow.Author.Tests.{lt-ltb, le-ltb, lt-leb, le-leb, ne_eqb, ltb-true, leb-true, leb-false}
use Rattle.integer.specs.Words.{counting, is_empty, last_of}
use Rattle.integer.proofs.Lists.{In, in_nil, in_cons, in_map, in_counting, Up, u_none, u_more}
use Rattle.integer.proofs.Tests.{is_true, passed, and_true, and_false, clash}
use Rattle.integer.proofs.Times.{counting_length}
use Rattle.dstree.specs.Measures.{sample_limit}
use Rattle.dstree.specs.Figures.{run, width}
use Rattle.dstree.specs.Node.{Segment, ends}
use Rattle.dstree.specs.WellFormed.{rising, ends_fit, segment_fits, segments_fit}
use Rattle.tables.specs.Layout.{segment_at, segments_place}
use Rattle.tables.specs.View.{small_of, scatter_in, value_at, small_at, segment_in, segments_in}
use Rattle.tables.proofs.Small.{small_read}
use Rattle.records_fit.specs.Fits.{between, segments_hold, segments_in_from, rest_holds, EndsRise}

-- ---- a number in between

module _ (low high : ℕ) where
  pub between_below : (x : ℕ) → x ≤ low → false ≡ between low high x
  between_below x h = rw (le-ltb low x h)

  pub between_above : (x : ℕ) → low < x → leb x high ≡ between low high x
  between_above x h = rw (lt-ltb low x h)

  pub between_yes : (x : ℕ) → between low high x ≡ true → (low < x) × (x ≤ high)
  between_yes x e = let p = and_both (ltb low x) (leb x high) (is_true e) in (ltb→lt low x p.0, leb→le x high p.1)

  pub between_no : (x : ℕ) → between low high x ≡ false → (x ≤ low) ⊎ (high < x)
  between_no x e = by (leb x low) refl
    where
      by : (a : Bool) → leb x low ≡ a → (x ≤ low) ⊎ (high < x)
      by true f = inl (leb-true x low f)
      by false f = inr (leb-false x high (between_above x (leb-false x low f) ∙ e))

-- a field, as it stands: what is no small number is below 0 or above any end
module _ (low high : ℕ) (g : low ≤ high) (h : high ≤ 256) where
  outside : false ≡ between low high 65536
  outside = sym (sym (between_above low high 65536 (omega (arith, g, h))) ∙ lt-leb 65536 high (omega (arith, h)))

  pub field_below : (z : ℤ) → le_z z (pos low) ≡ true → false ≡ between low high (small_of z)
  field_below (pos n) e =
      let f = leb-true n low e in
      subst (λ (x : ℕ). false ≡ between low high x) (sym (small_read n (omega (arith, f, g, h)))) (between_below low high n f)
  field_below (negsuc n) e = outside

  pub field_above : (z : ℤ) → le_z z (pos low) ≡ false → le_z z (pos high) ≡ between low high (small_of z)
  field_above (pos n) e = by (ltb 65535 n) refl
    where
      by : (b : Bool) → ltb 65535 n ≡ b → leb n high ≡ between low high (if b then 65536 else n)
      by true f = lt-leb n high (omega (arith, ltb-true 65535 n f, h)) ∙ outside
      by false f = between_above low high n (leb-false n low e)
  field_above (negsuc n) e = clash e

-- ---- what is left

module _ (r : List ℤ) (count i : ℕ) where
  pub from_more : i < count → segments_in_from r (count - i) i ≡ segment_in r i ∷ segments_in_from r (count - (i + 1)) (i + 1)
  unfolding counting
  from_more h = let e : count - i ≡ suc (count - (i + 1)) = omega arith in rw (e, add-one i)

  pub from_none : count ≤ i → segments_in_from r (count - i) i ≡ []
  unfolding counting
  from_none h = let e : count - i ≡ 0 = omega arith in rw e

pub from_first : (r : List ℤ) (count : ℕ) → segments_in_from r (count - 0) 0 ≡ segments_in_from r count 0
from_first r count = let e : count - 0 ≡ count = omega arith in rw e

-- the figures that were read are the segment's
pub figures_are : (w : ℕ) (r : List ℤ) (i : ℕ) {a b p q : ℤ} → a ≡ value_at r (segment_at i + 1) → b ≡ value_at r (segment_at i + 2) → p ≡ value_at r (segment_at i + 3) → q ≡ value_at r
    (segment_at i + 4)
    → segment_fits sample_limit w (record {
      end = small_at r (segment_at i);
      least_sum = a;
      greatest_sum = b;
      least_scatter = scatter_in p;
      greatest_scatter = scatter_in q;
    }) ≡ segment_fits sample_limit w (segment_in r i)
unfolding segment_in
figures_are w r i e f g h = rw (e, f, g, h)

-- ---- the rest holds

-- ends that rise past n do not come back to it
past : (n before : ℕ) (l : List Segment) → n < before → rest_holds n before l ≡ false
unfolding rest_holds
past n before [] h = ne_eqb before n (λ e. omega (arith, h, e))
past n before (s ∷ rest) h = by (ltb before s.end) refl (past n s.end rest)
  where
    by : (b : Bool) → ltb before s.end ≡ b → (n < s.end → rest_holds n s.end rest ≡ false)
        → b && segment_fits sample_limit (width (run (suc before) s.end)) s && rest_holds n s.end rest ≡ false
    by true e ih = rw (ih (omega (arith, ltb-true before s.end e, h))) (and_false (segment_fits sample_limit (width (run (suc before) s.end)) s))
    by false e ih = refl

module _ (n before : ℕ) (s : Segment) (rest : List Segment) where
  pub rest_falls : between before n s.end ≡ false → rest_holds n before (s ∷ rest) ≡ false
  unfolding rest_holds
  rest_falls e = by (between_no before n s.end e)
    where
      by : (s.end ≤ before) ⊎ (n < s.end) → ltb before s.end && segment_fits sample_limit (width (run (suc before) s.end)) s && rest_holds n s.end rest ≡ false
      by (inl h) = rw (le-ltb before s.end h)
      by (inr h) = rw (past n s.end rest h) (and_false (ltb before s.end && segment_fits sample_limit (width (run (suc before) s.end)) s))

  module _ (h : before < s.end) where
    same_width : width (run (suc before) s.end) ≡ s.end - before
    same_width = omega arith

    pub rest_outside : segment_fits sample_limit (s.end - before) s ≡ false → rest_holds n before (s ∷ rest) ≡ false
    unfolding rest_holds
    rest_outside e = rw (lt-ltb before s.end h, same_width, e)

    pub rest_next : segment_fits sample_limit (s.end - before) s ≡ true → rest_holds n before (s ∷ rest) ≡ rest_holds n s.end rest
    unfolding rest_holds
    rest_next e = rw (lt-ltb before s.end h, same_width, e)

-- of a rest that holds, the ends rise, to n
rest_rises : (n before : ℕ) (l : List Segment) → T (rest_holds n before l) → Up (suc before) (ends l)
unfolding rest_holds
rest_rises n before [] t = u_none
rest_rises n before (s ∷ rest) t =
    let p = passed (ltb before s.end) (segment_fits sample_limit (width (run (suc before) s.end)) s ∷ rest_holds n s.end rest ∷ []) t in
    u_more (ltb→lt before s.end p.0) (rest_rises n s.end rest p.1.1)

rest_low : (n before : ℕ) (l : List Segment) → T (rest_holds n before l) → before ≤ n
rest_low n before l t = by (leb before n) refl
  where
    by : (b : Bool) → leb before n ≡ b → before ≤ n
    by true e = leb-true before n e
    by false e = absurd (subst T (past n before l (leb-false before n e)) t)

rest_under : (n before : ℕ) (l : List Segment) → T (rest_holds n before l) → (e : ℕ) → In e (ends l) → e ≤ n
unfolding rest_holds
rest_under n before [] t e i = absurd (in_nil i)
rest_under n before (s ∷ rest) t e i = by (in_cons i) (rest_under n s.end rest p.1.1 e)
  where
    p : T (ltb before s.end) × (T (segment_fits sample_limit (width (run (suc before) s.end)) s) × T (rest_holds n s.end rest))
    p = passed (ltb before s.end) (segment_fits sample_limit (width (run (suc before) s.end)) s ∷ rest_holds n s.end rest ∷ []) t

    by : (e ≡ s.end) ⊎ In e (ends rest) → (In e (ends rest) → e ≤ n) → e ≤ n
    by (inl q) ih = omega (arith, q, rest_low n s.end rest p.1.1)
    by (inr j) ih = ih j

pub rest_done : (n before : ℕ) → rest_holds n before [] ≡ eqb before n
unfolding rest_holds
rest_done n before = refl

-- ---- both rules of a record's segments, from the rest's rule

sorted : (a r e f g : Bool) → ((a && r) && e) && (f && g) ≡ (a && f) && ((r && e) && g)
sorted false r e f g = refl
sorted true r e true g = refl
sorted true r e false g = and_false (r && e)

rest_is : (n before : ℕ) (l : List Segment) → (rising (before ∷ ends l) && eqb (foldl (λ x y. y) before (ends l)) n) && segments_fit sample_limit (suc before) l ≡ rest_holds n before l
unfolding rising segments_fit rest_holds
rest_is n before [] = and_true (eqb before n)
rest_is n before (s ∷ rest) =
    sorted (ltb before s.end) (rising (s.end ∷ ends rest)) (eqb (foldl (λ x y. y) s.end (ends rest)) n)
    (segment_fits sample_limit (width (run (suc before) s.end)) s) (segments_fit sample_limit (suc s.end) rest)
    ∙ ap (λ (b : Bool). (ltb before s.end && segment_fits sample_limit (width (run (suc before) s.end)) s) && b) (rest_is n s.end rest)

up_less : {l : List ℕ} → Up 1 l → Up 0 l
up_less u_none = u_none
up_less (u_more {a} h u) = u_more {k = 0} {a = a} (omega arith) u

-- as many ends as segments
pub ends_length : (r : List ℤ) (count i : ℕ) → length (ends (segments_in_from r count i)) ≡ count
ends_length r count i = length-map (segments_in_from r count i) (λ (s : Segment). s.end) ∙ (length-map (counting count i) (segment_in r) ∙ counting_length count i)

module _ (n : ℕ) (r : List ℤ) where
  pub none_hold : small_at r segments_place < 1 → segments_hold n r ≡ false
  unfolding segments_hold segments_in ends_fit counting is_empty
  none_hold h = let e : small_at r segments_place ≡ 0 = omega arith in rw e

  many : (count : ℕ) → 16 < count → ends_fit n (ends (segments_in_from r count 0))
      && segments_fit sample_limit 1 (segments_in_from r count 0) ≡ false
  unfolding ends_fit
  many count h = rw (lt-leb (length (ends (segments_in_from r count 0))) 16 (omega (arith, ends_length r count 0))) (by (not (is_empty (ends (segments_in_from r count 0)))))
    where
      by : (b : Bool) → (((b && false) && rising (0 ∷ ends (segments_in_from r count 0)))
          && eqb (last_of (ends (segments_in_from r count 0))) n) && segments_fit sample_limit 1 (segments_in_from r count 0) ≡ false
      by true = refl
      by false = refl

  pub many_hold : 16 < small_at r segments_place → segments_hold n r ≡ false
  unfolding segments_hold segments_in
  many_hold h = many (small_at r segments_place) h

  some : (count : ℕ) → 1 ≤ count → count ≤ 16 → ends_fit n (ends (segments_in_from r count 0)) && segments_fit sample_limit 1 (segments_in_from r count 0) ≡ rest_holds n 0
      (segments_in_from r count 0)
  unfolding ends_fit counting is_empty
  some zero g h = absurd (omega arith)
  some (suc k) g h = rw (le-leb (length (ends (segments_in_from r (suc k) 0))) 16 (omega (arith, ends_length r (suc k) 0))) (rest_is n 0 (segments_in_from r (suc k) 0))

  pub some_hold : 1 ≤ small_at r segments_place → small_at r segments_place ≤ 16 → segments_hold n r ≡ rest_holds n 0 (segments_in_from r (small_at r segments_place) 0)
  unfolding segments_hold segments_in
  some_hold g h = some (small_at r segments_place) g h

  -- a record whose segments hold has at most 16, whose ends rise
  pub hold_rise : n ≤ 256 → segments_hold n r ≡ true → EndsRise r (small_at r segments_place)
  hold_rise l e = by (leb (small_at r segments_place) 16) (leb 1 (small_at r segments_place)) refl refl
    where
      by : (a b : Bool) → leb (small_at r segments_place) 16 ≡ a → leb 1 (small_at r segments_place) ≡ b → EndsRise r (small_at r segments_place)
      by false b f g = clash (sym e ∙ many_hold (leb-false (small_at r segments_place) 16 f))
      by true false f g = clash (sym e ∙ none_hold (leb-false 1 (small_at r segments_place) g))
      by true true f g =
          let t : T (rest_holds n 0 (segments_in_from r (small_at r segments_place) 0)) =
          is_true (sym (some_hold (leb-true 1 (small_at r segments_place) g) (leb-true (small_at r segments_place) 16 f)) ∙ e) in
          record {
            few = leb-true (small_at r segments_place) 16 f;
            rise = up_less (rest_rises n 0 (segments_in_from r (small_at r segments_place) 0) t);
            low = λ i h. omega (
              arith,
              l,
              rest_under n 0 (segments_in_from r (small_at r segments_place) 0) t (segment_in r i).end
                  (in_map (λ (s : Segment). s.end) (in_map (segment_in r) (in_counting (small_at r segments_place) 0 i (omega arith) (omega arith)))),
            );
          }
