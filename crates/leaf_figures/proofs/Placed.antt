-- The right ends in an array's first places, and a new one among them.
use Rattle.std.specs.Prelude.{if◌then◌else◌}
use mathlib.Core.Path.{◌≡◌, refl, sym, ap, ap₂, ◌∙◌}
use mathlib.Core.Bool.{Bool, true, false}
use mathlib.Core.List.{List, [], ◌∷◌, ◌++◌, map, append_assoc}
use Prim.Native.Nat.{ℕ, suc, ◌+◌, ◌-◌, ◌<◌, ◌≤◌}
use native.Mathlib.Omega.{arith}
use native.Mathlib.Numerals.{add-one}
use lib.ListN.{length, get_or, take, drop, set, length-map, length-drop, drop_of_length-le}
use lib.Seq.{drop-cons, take-suc, take-suc-set, take-take, get_or-take, get_or-drop, length-take-le, ext_get_or}
use lib.Dec.{ltb}
use borrow.Author.Tests.{lt-ltb, le-ltb}
use Rattle.integer.proofs.Lists.{drop_take}
use Rattle.integer.specs.Words.{counting}
use Rattle.integer.proofs.Times.{counting_length}
use Rattle.integer.proofs.Rows.{get_or_table}
use Rattle.dstree.specs.Adding.{cut_at}
use Rattle.leaf_figures.specs.Ends.{place_in}

-- the first m places of an array that was filled place by place
pub filled_is : (f : ℕ → ℕ) (at : List ℕ) (m : ℕ) → m ≤ length at → ((j : ℕ) → j < m → get_or at j 0 ≡ f j) → take m at ≡ map f (counting m 0)
filled_is f at m room h =
    let la : length (take m at) ≡ m = length-take-le m at room in
    let lb : length (map f (counting m 0)) ≡ m = length-map (counting m 0) f ∙ counting_length m 0 in
    ext_get_or 0 (take m at) (map f (counting m 0)) (la ∙ sym lb)
    (λ j q. let u : j < m = omega (arith, la, q) in
    let z : 0 + j ≡ j = omega arith in
    get_or-take m at j 0 u ∙ (h j u ∙ sym (get_or_table f m 0 j 0 u ∙ ap f z)))

module _ (at : List ℕ) (count : ℕ) (room : count ≤ length at) where
  -- the ends from place i on start with what stands there
  pub end_at : (i : ℕ) → i < count → drop i (take count at) ≡ get_or at i 0 ∷ drop (i + 1) (take count at)
  end_at i h =
      rw (add-one i) (drop-cons (take count at) i 0 (omega (arith, length-take-le count at room))
      ∙ ap (λ (x : ℕ). x ∷ drop (suc i) (take count at)) (get_or-take count at i 0 h))

  pub no_end : (i : ℕ) → count ≤ i → drop i (take count at) ≡ []
  no_end i h = drop_of_length-le (take count at) {i = i} (omega (arith, length-take-le count at room))

  -- ---- the place of a new end

  pub place_here : (new i : ℕ) → i < count → new < get_or at i 0 → place_in new (drop i (take count at)) ≡ 0
  unfolding place_in
  place_here new i h l = rw (end_at i h, lt-ltb new (get_or at i 0) l)

  pub place_later : (new i : ℕ) → i < count → get_or at i 0 ≤ new → place_in new (drop i (take count at)) ≡ suc (place_in new (drop (i + 1) (take count at)))
  unfolding place_in
  place_later new i h l = rw (end_at i h, le-ltb new (get_or at i 0) l)

  pub place_end : (new i : ℕ) → count ≤ i → place_in new (drop i (take count at)) ≡ 0
  unfolding place_in
  place_end new i h = rw (no_end i h)

-- a new end in its place
pub cut_is : (new : ℕ) (l : List ℕ) → cut_at new l ≡ take (place_in new l) l ++ new ∷ drop (place_in new l) l
unfolding cut_at place_in
cut_is new [] = refl
cut_is new (end ∷ rest) = by (ltb new end) (cut_is new rest)
  where
    by : (b : Bool) → cut_at new rest ≡ take (place_in new rest) rest ++ new ∷ drop (place_in new rest) rest
        → (if b then new ∷ end ∷ rest else end ∷ cut_at new rest) ≡ take (if b then 0 else suc (place_in new rest)) (end ∷ rest) ++ new ∷ drop (if b then 0 else suc (place_in new rest)) (end ∷ rest)
    by true rec = refl
    by false rec = ap (λ (l : List ℕ). end ∷ l) rec

-- ---- the ends above it moved up by one

-- ends up to place i, moved: those before the place, the new one, and those behind it
abbrev pub EndsMoved : List ℕ → ℕ → ℕ → List ℕ → ℕ → Type 0
EndsMoved from new place at i = take (i + 1) at ≡ take place from ++ new ∷ take (i - place) (drop place from)

pub moved_none : (from : List ℕ) (new place : ℕ) → place < length from → EndsMoved from new place (set from place new) place
moved_none from new place h =
    let e : place - place ≡ 0 = omega arith in
    rw (add-one place, take-suc-set from place new h, e)

pub moved_more : (from : List ℕ) (new place : ℕ) (at : List ℕ) (i : ℕ) → place ≤ i → i < length from → i + 1 < length at → EndsMoved from new place at i
    → EndsMoved from new place (set at (i + 1) (get_or from i 0)) (i + 1)
moved_more from new place at i p h room m =
    let e : i + 1 - place ≡ suc (i - place) = omega arith in
    let f : place + (i - place) ≡ i = omega arith in
    let rest = drop place from in
    let more : take (suc (i - place)) rest ≡ take (i - place) rest ++ (get_or from i 0 ∷ []) =
    take-suc rest (i - place) 0 (omega (arith, length-drop place from)) ∙ ap (λ (x : ℕ). take (i - place) rest ++ (x ∷ []))
    (get_or-drop place from (i - place) 0 ∙ ap (λ (j : ℕ). get_or from j 0) f) in
    rw (add-one (i + 1), take-suc-set at (i + 1) (get_or from i 0) room, m, e, more) (append_assoc (take place from) (new ∷ take (i - place) rest) (get_or from i 0 ∷ []))

pub moved_all : (from : List ℕ) (new count : ℕ) (at : List ℕ) → place_in new (take count from) ≤ count → EndsMoved from new (place_in new (take count from)) at count
    → take (count + 1) at ≡ cut_at new (take count from)
moved_all from new count at h m =
    let p = place_in new (take count from) in
    m ∙ sym (cut_is new (take count from) ∙ ap₂ (λ (a b : List ℕ). a ++ new ∷ b) (take-take p count from h) (drop_take p count from))
