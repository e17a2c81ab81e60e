-- A node's record and its children's: what records that fit say of them, and that a child's ends include its parent's.
use Prim.Native.Nat.{ℕ, ◌≤◌, ◌<◌}
use mathlib.Core.Path.{◌≡◌, sym, ◌∙◌}
use mathlib.Core.Bool.{Bool, true, false, ◌&&◌}
use mathlib.Core.List.{List, [], ◌∷◌}
use native.Mathlib.Omega.{arith}
use lib.IntN.{ℤ}
use lib.Dec.{T, leb, ltb, leb→le, ltb→lt}
use mir.Facts.{and_yes}
use Rattle.integer.specs.Words.{every}
use Rattle.integer.proofs.Lists.{first, later, from_every}
use Rattle.integer.proofs.Tests.{is_true, passed, and_true}
use Rattle.dstree.specs.Measures.{sample_limit}
use Rattle.dstree.specs.WellFormed.{children_of, test_fits}
use Rattle.tables.specs.Layout.{kind_place, first_place, right_place, segments_place}
use Rattle.tables.specs.Tables.{record_of}
use Rattle.tables.specs.View.{small_at, segments_in, kind_in}
use Rattle.records_fit.specs.Fits.{kind_alone, child_fits, head_fits, segments_hold, record_fits, ends_in, kept_at, Under, ChildrenUnder, records_fit, EndsRise, AllFit, HeadFits}
use Rattle.records_fit.proofs.Limits.{passing}
use Rattle.records_fit.proofs.Segments.{hold_rise}
use Rattle.records_fit.proofs.Heads.{kind_inner}
use Rattle.records_fit.proofs.Loops.{each_passes}

-- ---- one record that fits

module _ (n m j : ℕ) (r : List ℤ) (t : record_fits n m j r ≡ true) where
  parts : T (head_fits n m j r) × T (segments_hold n r)
  unfolding record_fits
  parts = and_yes (head_fits n m j r) (segments_hold n r) (is_true t)

  pub head_of : head_fits n m j r ≡ true
  head_of = sym (passing parts.0)

  pub ends_rise : n ≤ 256 → EndsRise r (small_at r segments_place)
  ends_rise l = hold_rise n r l (sym (passing parts.1))

-- ---- one head that fits

module _ (n m j : ℕ) (r : List ℤ) (t : head_fits n m j r ≡ true) where
  head : T (leb (small_at r kind_place) 2) × (T (every (child_fits m j) (children_of (kind_alone r))) × T (test_fits sample_limit n (kind_alone r)))
  unfolding head_fits
  head = passed (leb (small_at r kind_place) 2) (every (child_fits m j) (children_of (kind_alone r)) ∷ test_fits sample_limit n (kind_alone r) ∷ []) (is_true t)

  pub kind_named : small_at r kind_place ≤ 2
  kind_named = leb→le (small_at r kind_place) 2 head.0

  module _ (f : small_at r kind_place ≡ 0 → ⊥) where
    both : T (every (child_fits m j) (small_at r first_place ∷ small_at r right_place ∷ []))
    unfolding children_of
    both = rw (kind_inner [] 0 r (small_at r kind_place) f kind_named) at head.1.0

    pub left_above : (j < small_at r first_place) × (small_at r first_place < m)
    left_above =
        let c = small_at r first_place in
        let p = and_yes (ltb j c) (ltb c m) (from_every (child_fits m j) (c ∷ small_at r right_place ∷ []) both first) in
        (ltb→lt j c p.0, ltb→lt c m p.1)

    pub right_above : (j < small_at r right_place) × (small_at r right_place < m)
    right_above =
        let c = small_at r right_place in
        let p = and_yes (ltb j c) (ltb c m) (from_every (child_fits m j) (small_at r first_place ∷ c ∷ []) both (later first)) in
        (ltb→lt j c p.0, ltb→lt c m p.1)

-- ---- of all that fit, one

pub record_fits_at : (n m : ℕ) (nodes : List ℤ) → records_fit n m nodes ≡ true → (j : ℕ) → j < m → record_fits n m j (record_of nodes j) ≡ true
unfolding records_fit
record_fits_at n m nodes e j h = each_passes (λ x. record_fits n m x (record_of nodes x)) m 0 e j (omega arith) (omega arith)

pub head_fits_at : {m : ℕ} {nodes : List ℤ} (a : AllFit m nodes) (j : ℕ) → j < m → head_fits a.n m j (record_of nodes j) ≡ true
head_fits_at {m} {nodes} a j h = head_of a.n m j (record_of nodes j) (record_fits_at a.n m nodes a.fit j h)

pub head_in_use : {m : ℕ} {nodes : List ℤ} → AllFit m nodes → (j : ℕ) → j < m → HeadFits j nodes
head_in_use {m} {nodes} a j h = record { n = a.n; m = m; fit = head_fits_at a j h; room = a.room; low = a.low; inside = h }

-- ---- ends that a node's children keep

module _ (nodes : List ℤ) (j : ℕ) where
  abbrev r : List ℤ
  r = record_of nodes j

  abbrev keeps : ℕ → Bool
  keeps child = ends_in (segments_in (record_of nodes child)) (segments_in r)

  pub leaf_keeps : small_at r kind_place ≡ 0 → kept_at nodes j ≡ true
  unfolding kept_at kind_in children_of every
  leaf_keeps e = rw e

  module _ (f : small_at r kind_place ≡ 0 → ⊥) (h : small_at r kind_place ≤ 2) where
    kept_is : kept_at nodes j ≡ keeps (small_at r first_place) && (keeps (small_at r right_place) && true)
    unfolding kept_at children_of every
    kept_is = rw (kind_inner [] 0 r (small_at r kind_place) f h)

    pub left_loses : keeps (small_at r first_place) ≡ false → kept_at nodes j ≡ false
    left_loses e = kept_is ∙ rw e

    pub right_decides : keeps (small_at r first_place) ≡ true → kept_at nodes j ≡ keeps (small_at r right_place)
    right_decides e = kept_is ∙ (rw e (and_true (keeps (small_at r right_place))))

-- ---- children that hold and keep the ends

module _ (n : ℕ) (nodes : List ℤ) (j : ℕ) where
  abbrev mine : List ℤ
  mine = record_of nodes j

  none_hold : small_at mine kind_place ≡ 0 → every (λ child. segments_hold n (record_of nodes child)) (children_of (kind_alone mine)) ≡ true
  unfolding kind_in children_of every
  none_hold e = rw e

  pub leaf_under : small_at mine kind_place ≡ 0 → ChildrenUnder n nodes j
  leaf_under e = record { hold = none_hold e; kept = leaf_keeps nodes j e }

  module _ (f : small_at mine kind_place ≡ 0 → ⊥) (h : small_at mine kind_place ≤ 2) where
    both_hold : Under n (record_of nodes (small_at mine first_place)) mine → Under n (record_of nodes (small_at mine right_place)) mine
        → every (λ child. segments_hold n (record_of nodes child)) (children_of (kind_alone mine)) ≡ true
    unfolding children_of every
    both_hold x y = rw (kind_inner [] 0 mine (small_at mine kind_place) f h, x.hold, y.hold)

    pub inner_under : Under n (record_of nodes (small_at mine first_place)) mine → Under n (record_of nodes (small_at mine right_place)) mine → ChildrenUnder n nodes j
    inner_under x y = record { hold = both_hold x y; kept = right_decides nodes j f h x.keeps ∙ y.keeps }
