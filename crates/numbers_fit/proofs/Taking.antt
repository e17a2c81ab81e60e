-- Marking what names traces: the first of each leaf, then the link of each trace, as far as a loop has come.
use Prim.Native.Nat.{ℕ, ◌+◌, ◌*◌, ◌≤◌, ◌<◌}
use mathlib.Core.Path.{◌≡◌, refl, sym, ◌∙◌, ap, subst}
use mathlib.Core.Bool.{Bool, true, false}
use mathlib.Core.Logic.{◌⊎◌, inl, inr}
use mathlib.Core.List.{List, [], ◌∷◌, map, flatten}
use native.Mathlib.Omega.{arith}
use lib.ListN.{length, length-append, length-set, get_or, set}
use lib.Seq.{get_or-set_same, get_or-set_other}
use mir.Val.{bool_byte}
use Rattle.std.specs.Bool.{MatchBool}
use Rattle.std.specs.Prelude.{if◌then◌else◌}
use lib.Dec.{T, ltb, eqb, ltb→lt, lt→ltb}
use borrow.Author.Tests.{eqb-true, eqb-false}
use Rattle.integer.specs.Words.{every, counting}
use Rattle.integer.proofs.Lists.{same_or_not, In, first, in_cons, in_nil, in_append, in_flat, every_of, from_every, in_counting}
use Rattle.integer.proofs.Tests.{clash}
use Rattle.numbers_fit.specs.Marks.{MarksGrown, Twice, MarkedOrTwice, Named, LinkRises, LinksRise, LinksMarked}
use Rattle.numbers_fit.specs.Tests.{not_zero, link_at, links_of}
use Rattle.numbers_fit.proofs.Growth.{grown_none, grown_firsts, again_firsts, firsts_more, Tallied, tallied_none, tallied_more}

-- ---- numbers below a count

pub named_as : {count : ℕ} {a b xs ys : List ℕ} {r : Bool} → xs ≡ ys → Named count a b ys r → Named count a b xs r
named_as {count} {a} {b} {r} e n = subst (λ (l : List ℕ). Named count a b l r) (sym e) n

-- numbers that are marked, and numbers that are refused
pub named_new : {count : ℕ} {a b xs : List ℕ} → T (every (λ number. ltb number count) xs) → MarksGrown a b xs → Named count a b xs true
named_new t g = record { below = λ _. t; new = λ _. g; old = λ e. clash e }

pub named_yes : {count : ℕ} {a b xs : List ℕ} {r : Bool} → Named count a b xs r → r ≡ true → Named count a b xs true
named_yes n e = named_new (n.below e) (n.new e)

pub named_old : {count : ℕ} {a b xs : List ℕ} → (T (every (λ number. ltb number count) xs) → Twice a xs) → Named count a b xs false
named_old f = record { below = λ e. clash (sym e); new = λ e. clash (sym e); old = λ _. f }

pub named_none : {count : ℕ} (marks : List ℕ) → Named count marks marks [] true
unfolding every
named_none marks = named_new tt (grown_none marks)

module _ {count : ℕ} (x : ℕ) {a b : List ℕ} where
  pub named_above : count ≤ x → Named count a b (x ∷ []) false
  named_above h = named_old (λ t. absurd (omega (arith, h, ltb→lt x count (from_every (λ number. ltb number count) (x ∷ []) t first))))

  pub named_one : x < count → {r : Bool} → MarkedOrTwice a b (x ∷ []) r → Named count a b (x ∷ []) r
  named_one h t = record { below = λ _. every_of (λ number. ltb number count) (x ∷ []) (λ y i. by y (in_cons i)); new = t.new; old = λ e _. t.old e }
    where
      by : (y : ℕ) → (y ≡ x) ⊎ In y [] → T (ltb y count)
      by y (inl p) = lt→ltb y count (omega (arith, p, h))
      by y (inr i) = absurd (in_nil i)

-- ---- the numbers of one node after another

module _ (f : ℕ → List ℕ) (count : ℕ) where
  abbrev firsts : ℕ → List ℕ
  firsts j = flatten (map f (counting j 0))

  abbrev low : ℕ → Bool
  low number = ltb number count

  pub record Marked (before marks : List ℕ) (j : ℕ) : Type 0 where
    pub below : T (every low (firsts j))
    pub grown : MarksGrown before marks (firsts j)

  pub marked_start : (marks : List ℕ) → Marked marks marks 0
  unfolding counting flatten every
  marked_start marks = record { below = tt; grown = grown_none marks }

  module _ {before marks : List ℕ} {j : ℕ} (w : Marked before marks j) where
    pub marked_more : {after : List ℕ} {r : Bool} → Named count marks after (f j) r → r ≡ true → Marked before after (j + 1)
    marked_more n t = record {
      below = every_of low (firsts (j + 1)) (λ x i. side x (in_append (firsts j) (subst (In x) (firsts_more f j) i)));
      grown = grown_firsts f w.grown (n.new t);
    }
      where
        side : (x : ℕ) → In x (firsts j) ⊎ In x (f j) → T (low x)
        side x (inl i) = from_every low (firsts j) w.below i
        side x (inr i) = from_every low (f j) (n.below t) i

    pub marked_refused : {after : List ℕ} {r : Bool} → Named count marks after (f j) r → r ≡ false → (m : ℕ) → j < m → {end : List ℕ} → Named count before end (firsts m) false
    marked_refused n e m h = named_old (λ t. again_firsts f w.grown m h (n.old e (mine t)))
      where
        mine : T (every low (firsts m)) → T (every low (f j))
        mine t = every_of low (f j) (λ x i. from_every low (firsts m) t (in_flat f (in_counting m 0 j (omega arith) (omega arith)) i))

    pub marked_end : (m : ℕ) → j ≡ m → Named count before marks (firsts m) true
    marked_end m e = subst (λ (y : ℕ). Named count before marks (firsts y) true) e (named_new w.below w.grown)

-- ---- one link after another

module _ (links : List ℕ) (k : ℕ) where
  abbrev pub LinkFits : ℕ → Type 0
  LinkFits x = LinkRises k x (get_or links x 0)

  -- how many of the first i links rise, and how many end a list
  pub record Counted (fit ends i : ℕ) : Type 0 where
    pub few : i ≤ k
    pub passed : Tallied LinkFits fit i
    pub count : ends + length (links_of links i) ≡ i

  pub counted_start : Counted 0 0 0
  unfolding counting flatten
  counted_start = record { few = omega arith; passed = tallied_none LinkFits; count = refl }

  -- a link is 0, or is one
  ended_or_link : (x : ℕ) → bool_byte (eqb x 0) + length (not_zero x) ≡ 1
  ended_or_link x = by (eqb x 0)
    where
      by : (b : Bool) → bool_byte b + length (if b then [] else x ∷ []) ≡ 1
      by true = refl
      by false = refl

  pub counted_more : {fit ends i : ℕ} (rises : Bool) → Counted fit ends i → i < k → MatchBool rises (LinkFits i) (LinkFits i → ⊥)
      → Counted (fit + bool_byte rises) (ends + bool_byte (eqb (get_or links i 0) 0)) (i + 1)
  counted_more {fit} {ends} {i} rises w h p = record {
    few = omega arith;
    passed = risen rises p;
    count = omega (arith, w.count, ended_or_link (get_or links i 0), ap length (firsts_more (link_at links) i) ∙ length-append (links_of links i) (link_at links i));
  }
    where
      risen : (b : Bool) → MatchBool b (LinkFits i) (LinkFits i → ⊥) → Tallied LinkFits (fit + bool_byte b) (i + 1)
      risen true f = tallied_more LinkFits w.passed (omega arith) (λ _. f) (λ _. refl)
      risen false f = tallied_more LinkFits w.passed (omega arith) (λ e. absurd (omega arith)) (λ g. absurd (f g))

  module _ {fit ends i : ℕ} (w : Counted fit ends i) (e : i ≡ k) (m : ℕ) where
    pub counted_short : (fit ≡ k → ⊥) → LinksRise links k m → ⊥
    counted_short f l = f (omega (arith, w.passed.all (λ x h. l.fit x (omega (arith, h, e))), e))

    total : ends + length (links_of links k) ≡ k
    total = subst (λ (x : ℕ). ends + length (links_of links x) ≡ x) e w.count

    pub counted_all : fit ≡ k → (b : Bool) → eqb (2 * ends) (m + 1) ≡ b → (b ≡ true → LinksRise links k m) × (b ≡ false → LinksRise links k m → ⊥)
    counted_all f b q = (
      λ t. record { fit = λ x h. w.passed.each (omega (arith, f, e)) x (omega (arith, h, e)); ends = omega (arith, total, eqb-true (2 * ends) (m + 1) (q ∙ t)) },
      λ t l. eqb-false (2 * ends) (m + 1) (q ∙ t) (omega (arith, total, l.ends)),
    )

-- ---- one link after another, marked

module _ (links : List ℕ) where
  pub links_none : (marks : List ℕ) → LinksMarked links 0 marks marks
  links_none marks = record { size = refl; on = λ i h. absurd (omega arith); off = λ x _. refl; kept = λ x e. e }

  pub links_more : {before marks : List ℕ} {i link : ℕ} → LinksMarked links i before marks → link ≡ get_or links i 0 → link < length marks
      → LinksMarked links (i + 1) before (set marks link 1)
  links_more {before} {marks} {i} {link} w e h = record {
    size = length-set marks link 1 ∙ w.size;
    on = λ x g. on x g (same_or_not x i);
    off = λ x f. get_or-set_other marks link x 1 0 (λ p. f i (omega arith) (p ∙ e)) ∙ w.off x (λ y g. f y (omega (arith, g)));
    kept = λ x p. still x (w.kept x p);
  }
    where
      still : (x : ℕ) → get_or marks x 0 ≡ 1 → get_or (set marks link 1) x 0 ≡ 1
      still x p = by (same_or_not x link)
        where
          by : Dec (x ≡ link) → get_or (set marks link 1) x 0 ≡ 1
          by (yes q) = subst (λ (y : ℕ). get_or (set marks link 1) y 0 ≡ 1) (sym q) (get_or-set_same marks link 1 0 h)
          by (no f) = get_or-set_other marks link x 1 0 f ∙ p

      on : (x : ℕ) → x < i + 1 → Dec (x ≡ i) → get_or (set marks link 1) (get_or links x 0) 0 ≡ 1
      on x g (yes p) =
          subst (λ (y : ℕ). get_or (set marks link 1) y 0 ≡ 1) (e ∙ ap (λ (y : ℕ). get_or links y 0) (sym p)) (get_or-set_same marks link 1 0 h)
      on x g (no f) = still (get_or links x 0) (w.on x (omega (arith, g, f)))
