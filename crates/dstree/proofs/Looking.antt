-- Document 02, §3: a walk that ends at the trace that shows the second side takes the fewest first ones that show both, and what it sees
-- is whether the candidate parts the leaf. Two traces on different sides show both, whatever else a list has; traces that all go one way
-- show no second side.
use Prim.Native.Nat.{ℕ, suc, ◌≤◌, ◌<◌, min}
use mathlib.Core.Path.{◌≡◌, refl, sym, subst, ◌∙◌}
use mathlib.Core.Bool.{Bool, true, false, not}
use mathlib.Core.Logic.{◌⊎◌, inl, inr}
use mathlib.Core.List.{List, [], ◌∷◌}
use native.Mathlib.Omega.{arith}
use native.Mathlib.Decide.{dec_le}
use native.Mathlib.Nat.{lt_of_not-le}
use lib.ListN.{length, get_or, take, length-take}
use lib.Seq.{take-length, take-take, get_or-take}
use mir.Facts.{and_yes}
use Rattle.integer.specs.Words.{those, chosen, least, counting, is_empty}
use borrow.Author.Tests.{not-true}
use Rattle.integer.proofs.Tests.{is_true, is_false, test_true, never_both}
use Rattle.integer.proofs.Lists as lists
use Rattle.integer.proofs.Lists.{In, first, in_nil, in_cons, in_get_or, some_in, from_those, in_those, in_counting, from_counting}
use Rattle.integer.proofs.Lists.{least_low, least_in}
use Rattle.integer.proofs.Sorting.{from_take}
use Rattle.dstree.specs.Adding.{split_by, parts, show_sides, fewest_first}
use Rattle.dstree.specs.Claims.{YesOrNo, TakenOf}
use Rattle.dstree.proofs.Parting.{not_empty}

-- the least of some numbers does not depend on what stands for none
chosen_some : (other : ℕ) (l : List ℕ) → 0 < length l → chosen min other l ≡ least l
unfolding chosen
chosen_some other [] h = absurd (omega arith)
chosen_some other (x ∷ l) h = refl

chosen_none : (other : ℕ) (l : List ℕ) → ((k : ℕ) → In k l → ⊥) → chosen min other l ≡ other
unfolding chosen
chosen_none other [] h = refl
chosen_none other (x ∷ l) h = absurd (h x first)

module _ (goes : ℕ → Bool) where
  -- one trace on each side
  record Sides (l : List ℕ) : Type 0 where
    left : ℕ
    right : ℕ
    left_in : In left l
    right_in : In right l
    goes_left : goes left ≡ true
    goes_right : goes right ≡ false

  from_shown : (l : List ℕ) → show_sides goes l ≡ true → Sides l
  unfolding show_sides
  from_shown l e =
      let both = and_yes (not (is_empty (those goes l))) (not (is_empty (those (λ k. not (goes k)) l))) (is_true e) in
      let a = from_those goes l (in_get_or (those goes l) 0 0 (lists.not_empty (those goes l) both.0)) in
      let b = from_those (λ k. not (goes k)) l
      (in_get_or (those (λ k. not (goes k)) l) 0 0 (lists.not_empty (those (λ k. not (goes k)) l) both.1)) in
      record {
        left = get_or (those goes l) 0 0;
        right = get_or (those (λ k. not (goes k)) l) 0 0;
        left_in = a.0;
        right_in = b.0;
        goes_left = test_true _ a.1;
        goes_right = not-true _ (test_true _ b.1);
      }

  shows : {l : List ℕ} → Sides l → show_sides goes l ≡ true
  unfolding show_sides
  shows s = rw (
    not_empty (in_those goes s.left_in (is_true s.goes_left)),
    not_empty (in_those (λ k. not (goes k)) s.right_in (is_false s.goes_right)),
  )

  -- what a list shows, a list with more in it shows
  more_show : {l m : List ℕ} → ((k : ℕ) → In k l → In k m) → show_sides goes l ≡ true → show_sides goes m ≡ true
  more_show {l} f e =
      let s = from_shown l e in
      shows (record {
        left = s.left;
        right = s.right;
        left_in = f s.left s.left_in;
        right_in = f s.right s.right_in;
        goes_left = s.goes_left;
        goes_right = s.goes_right;
      })

  -- traces that all go one way
  pub one_side : (b : Bool) (l : List ℕ) → ((k : ℕ) → In k l → goes k ≡ b) → show_sides goes l ≡ false
  one_side b l h = by (show_sides goes l) refl
    where
      by : (t : Bool) → show_sides goes l ≡ t → t ≡ false
      by true e =
          let s = from_shown l e in
          never_both s.goes_left (h s.left s.left_in ∙ (sym (h s.right s.right_in) ∙ s.goes_right))
      by false e = refl

  -- two sides take two traces
  at_least_two : (l : List ℕ) → Sides l → 2 ≤ length l
  at_least_two [] s = absurd (in_nil s.left_in)
  at_least_two (x ∷ []) s = never_both s.goes_left (same (in_cons s.left_in) (in_cons s.right_in) ∙ s.goes_right)
    where
      same : (s.left ≡ x) ⊎ In s.left [] → (s.right ≡ x) ⊎ In s.right [] → goes s.left ≡ goes s.right
      same (inl p) (inl q) = rw (p, q)
      same (inl p) (inr i) = absurd (in_nil i)
      same (inr i) q = absurd (in_nil i)
  at_least_two (x ∷ y ∷ l) s = omega arith

  module _ (l : List ℕ) where
    -- how many first ones show both sides
    abbrev enough : List ℕ
    enough = those (λ k. show_sides goes (take k l)) (counting (suc (length l)) 0)

    is_enough : (k : ℕ) → k ≤ length l → show_sides goes (take k l) ≡ true → In k enough
    is_enough k h e = in_those (λ j. show_sides goes (take j l)) (in_counting (suc (length l)) 0 k (omega arith) (omega arith)) (is_true e)

    record Fewest (k : ℕ) : Type 0 where
      is_shown : show_sides goes (take (fewest_first goes l) l) ≡ true
      within : fewest_first goes l ≤ length l
      no_more : fewest_first goes l ≤ k

    fewest : (k : ℕ) → k ≤ length l → show_sides goes (take k l) ≡ true → Fewest k
    unfolding fewest_first
    fewest k h e =
        let i = is_enough k h e in
        let is = chosen_some (length l) enough (some_in i) in
        let among = from_those (λ j. show_sides goes (take j l)) (counting (suc (length l)) 0) (least_in enough (some_in i)) in
        let low = from_counting (suc (length l)) 0 among.0 in
        record {
          is_shown = rw is (test_true _ among.1);
          within = omega (arith, is, low.1);
          no_more = omega (arith, is, least_low i);
        }

    all_else : show_sides goes l ≡ false → fewest_first goes l ≡ length l
    unfolding fewest_first
    all_else e = chosen_none (length l) enough (λ k i. never_both
        (more_show (λ j. from_take k l) (test_true _ (from_those (λ j. show_sides goes (take j l)) (counting (suc (length l)) 0) i).1)) e)

    of_all : show_sides goes l ≡ true → Fewest (length l)
    of_all e = fewest (length l) (omega arith) (rw (take-length l) e)

    at_most : (b : Bool) → show_sides goes l ≡ b → fewest_first goes l ≤ length l
    at_most true e = (of_all e).within
    at_most false e = omega (arith, all_else e)

    two : show_sides goes l ≡ true → 2 ≤ fewest_first goes l
    two e =
        let taken = take (fewest_first goes l) l in
        omega (arith, at_least_two taken (from_shown taken (of_all e).is_shown), length-take (fewest_first goes l) l)

    pub taken_of : TakenOf goes l
    taken_of = record {
      shown = λ e. (of_all e).is_shown;
      no_fewer = λ k h. fewer k h (show_sides goes (take k l)) refl;
      all_else = all_else;
      at_most = at_most (show_sides goes l) refl;
      one = one (show_sides goes l) refl;
      two = two;
    }
      where
        fewer : (k : ℕ) → k < fewest_first goes l → (b : Bool) → show_sides goes (take k l) ≡ b → b ≡ false
        fewer k h true e = let f = fewest k (omega (arith, h, at_most (show_sides goes l) refl)) e in absurd (omega (arith, h, f.no_more))
        fewer k h false e = refl

        one : (b : Bool) → show_sides goes l ≡ b → 0 < length l → 1 ≤ fewest_first goes l
        one true e h = omega (arith, two e)
        one false e h = omega (arith, all_else e, h)

    -- a walk that holds each trace's side against the first one's: the first i all go one way, and the next goes the other
    module _ (b : Bool) (i : ℕ) (some : 0 < i) (here : i < length l) (so_far : (k : ℕ) → In k (take i l) → goes k ≡ b)
        (other : goes (get_or l i 0) ≡ not b) where
      among : (j : ℕ) → j < suc i → In (get_or l j 0) (take (suc i) l)
      among j h = subst (λ (x : ℕ). In x (take (suc i) l)) (get_or-take (suc i) l j 0 h)
          (in_get_or (take (suc i) l) j 0 (omega (arith, length-take (suc i) l, h, here)))

      first_goes : goes (get_or l 0 0) ≡ b
      first_goes = so_far (get_or l 0 0) (subst (λ (x : ℕ). In x (take i l)) (get_or-take i l 0 0 some)
          (in_get_or (take i l) 0 0 (omega (arith, length-take i l, some, here))))

      sides : (t : Bool) → b ≡ t → Sides (take (suc i) l)
      sides true e = record {
        left = get_or l 0 0;
        right = get_or l i 0;
        left_in = among 0 (omega arith);
        right_in = among i (omega arith);
        goes_left = first_goes ∙ e;
        goes_right = subst (λ (x : Bool). goes (get_or l i 0) ≡ not x) e other;
      }
      sides false e = record {
        left = get_or l i 0;
        right = get_or l 0 0;
        left_in = among i (omega arith);
        right_in = among 0 (omega arith);
        goes_left = subst (λ (x : Bool). goes (get_or l i 0) ≡ not x) e other;
        goes_right = first_goes ∙ e;
      }

      pub looked_found : (show_sides goes l ≡ true) × (fewest_first goes l ≡ suc i)
      looked_found =
          let both = shows (sides b refl) in
          let f = fewest (suc i) (omega arith) both in
          let no_less = late (dec_le (fewest_first goes l) i) f.is_shown in
          (more_show (λ k. from_take (suc i) l) both, omega (arith, f.no_more, no_less))
        where
          late : Dec (fewest_first goes l ≤ i) → show_sides goes (take (fewest_first goes l) l) ≡ true → i < fewest_first goes l
          late (yes h) e = never_both e (one_side b (take (fewest_first goes l) l) (λ k j. so_far k
              (from_take (fewest_first goes l) (take i l) (subst (In k) (sym (take-take (fewest_first goes l) i l h)) j))))
          late (no f) e = lt_of_not-le f

-- "Its yes or no remains"
pub yes_or_no : YesOrNo
unfolding split_by parts show_sides
yes_or_no stored numbers c = refl
