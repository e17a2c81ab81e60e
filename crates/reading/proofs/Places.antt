-- The records of a list and the places that they stand in, two each: the one read as the other. So a list that keeps its other places is
-- the old one with its beginning replaced.
use Prim.Native.Nat.{ℕ, zero, suc, ◌+◌, ◌*◌, ◌≤◌}
use mathlib.Core.Path.{◌≡◌, refl, sym, ap, ap₂, ◌∙◌}
use mathlib.Core.List.{List, [], ◌∷◌, ◌++◌, map}
use native.Mathlib.Omega.{arith}
use lib.ListN.{length, get_or, take, drop, take-append-drop}
use Rattle.integer.specs.Words.{counting}
use Rattle.dstree.specs.Matching.{Near}
use Rattle.dstree.specs.KNearest.{list_places}
use Rattle.dstree.specs.Book.{over}
use Rattle.reading.specs.Nearest.{near}
use Rattle.reading.specs.Listed.{record_at, nears_in}
use Rattle.reading.proofs.Records.{nears_length}

-- ---- two places more in front

module _ (a b : ℕ) (l : List ℕ) where
  next_record : (i : ℕ) → record_at (a ∷ b ∷ l) (suc i) ≡ record_at l i
  next_record i =
      let e : 2 * suc i ≡ suc (suc (2 * i)) = omega arith in
      let f : 2 * suc i + 1 ≡ suc (suc (2 * i + 1)) = omega arith in
      ap₂ near (ap (λ (n : ℕ). get_or (a ∷ b ∷ l) n 0) e) (ap (λ (n : ℕ). get_or (a ∷ b ∷ l) n 0) f)

  next_records : (m i : ℕ) → map (record_at (a ∷ b ∷ l)) (counting m (suc i)) ≡ map (record_at l) (counting m i)
  unfolding counting
  next_records zero i = refl
  next_records (suc m) i = ap₂ (λ (r : Near) (rest : List Near). r ∷ rest) (next_record i) (next_records m (suc i))

  nears_more : (m : ℕ) → nears_in (suc m) (a ∷ b ∷ l) ≡ near a b ∷ nears_in m l
  unfolding nears_in counting
  nears_more m = ap (λ (rest : List Near). near a b ∷ rest) (next_records m 0)

-- ---- the places of the first m records, and the records in the places of a list

places_in : (m : ℕ) (l : List ℕ) → 2 * m ≤ length l → take (2 * m) l ≡ list_places (nears_in m l)
unfolding list_places nears_in counting
places_in zero l h = refl
places_in (suc m) [] h = absurd (omega arith)
places_in (suc m) (a ∷ []) h = absurd (omega arith)
places_in (suc m) (a ∷ (b ∷ l)) h =
    let e : 2 * suc m ≡ suc (suc (2 * m)) = omega arith in
    let rest = places_in m l (omega arith) in
    ap (λ (n : ℕ). take n (a ∷ b ∷ l)) e ∙ (ap (λ (r : List ℕ). a ∷ b ∷ r) rest ∙ ap list_places (sym (nears_more a b l m)))

pub nears_in_lem : (list : List Near) (rest : List ℕ) → nears_in (length list) (list_places list ++ rest) ≡ list
unfolding list_places nears_in counting
nears_in_lem [] rest = refl
nears_in_lem (a ∷ list) rest =
    nears_more a.trace a.distance (list_places list ++ rest) (length list)
    ∙ ap (λ (r : List Near). a ∷ r) (nears_in_lem list rest)

pub places_length : (list : List Near) → length (list_places list) ≡ 2 * length list
unfolding list_places
places_length [] = refl
places_length (a ∷ list) = omega (arith, places_length list)

pub list_over : (m : ℕ) (l l' : List ℕ) → 2 * m ≤ length l' → drop (2 * m) l' ≡ drop (2 * m) l → l' ≡ over (list_places (nears_in m l')) l
list_over m l l' h e =
    let first : List ℕ = list_places (nears_in m l') in
    let size : length first ≡ 2 * m = omega (arith, places_length (nears_in m l'), nears_length m l') in
    sym (take-append-drop (2 * m) l')
    ∙ (ap (λ (r : List ℕ). r ++ drop (2 * m) l') (places_in m l' h)
    ∙ (ap (λ (r : List ℕ). first ++ r) e ∙ ap (λ (n : ℕ). first ++ drop n l) (sym size)))
