-- A record that is put into a table is what stands there then, every other record is as it was, and so is the table's length. First for
-- parts of any size w in a list of anything (traces lie so in the samples), then for node records.
use mathlib.Core.Path.{◌≡◌, refl, sym, ap, subst, ◌∙◌}
use mathlib.Core.Bool.{Bool, true, false}
use mathlib.Core.List.{List, ◌++◌}
use mathlib.Core.Logic.{◌⊎◌, inl, inr, ◌≢◌}
use Prim.Native.Nat.{ℕ, suc, ◌+◌, ◌*◌, ◌<◌, ◌≤◌, ◌-◌}
use native.Mathlib.Nat.{mul-le-mul_right}
use native.Mathlib.Omega.{arith}
use lib.Dec.{ltb}
use lib.IntN.{ℤ, pos}
use lib.ListN.{length, get_or, take, drop, length-append, length-drop, get_or-append}
use lib.Seq.{length-take-le, take_at, drop_at, get_or-take, get_or-drop, get_or-append-add, ext_get_or}
use borrow.Author.Tests.{ltb-true, ltb-false}
use borrow.Rule.Slice.PartMut.{put_mid, Post-is}
use Rattle.tables.specs.Layout.{record_places}
use Rattle.tables.specs.Tables.{record_of, with_record}

module _ {A : Type 0} where
  -- part j of a list that is cut into parts of w
  abbrev pub part_of : ℕ → List A → ℕ → List A
  part_of w l j = take w (drop (j * w) l)

  abbrev pub with_part : ℕ → List A → ℕ → List A → List A
  with_part w l j r = take (j * w) l ++ (r ++ drop (j * w + w) l)

  module _ (z : A) (w : ℕ) (l : List A) (j : ℕ) (r : List A) (fits : j * w + w ≤ length l) (size : length r ≡ w) where
    head_length : length (take (j * w) l) ≡ j * w
    head_length = length-take-le (j * w) l (omega arith)

    pub part_same : part_of w (with_part w l j r) j ≡ r
    part_same = rw (drop_at (take (j * w) l) (r ++ drop (j * w + w) l) (j * w) head_length) (take_at r (drop (j * w + w) l) w size)

    pub part_length : length (with_part w l j r) ≡ length l
    part_length = simp (length-append, length-drop, head_length) (omega arith)

    at_before : (y : ℕ) → y < j * w → get_or (with_part w l j r) y z ≡ get_or l y z
    at_before y h = get_or-append (take (j * w) l) (r ++ drop (j * w + w) l) z y (omega (arith, head_length)) ∙ get_or-take (j * w) l y z h

    at_after : (k : ℕ) → get_or (with_part w l j r) (j * w + (w + k)) z ≡ get_or l (j * w + w + k) z
    at_after k =
        let rest = r ++ drop (j * w + w) l in
        let e1 : get_or (take (j * w) l ++ rest) (j * w + (w + k)) z ≡ get_or rest (w + k) z =
        subst (λ (n : ℕ). get_or (take (j * w) l ++ rest) (n + (w + k)) z ≡ get_or rest (w + k) z) head_length (get_or-append-add (take (j * w) l) rest (w + k) z) in
        let e2 : get_or rest (w + k) z ≡ get_or (drop (j * w + w) l) k z =
        subst (λ (n : ℕ). get_or rest (n + k) z ≡ get_or (drop (j * w + w) l) k z) size (get_or-append-add r (drop (j * w + w) l) k z) in
        e1 ∙ (e2 ∙ get_or-drop (j * w + w) l k z)

    at_other : (y : ℕ) → (y < j * w) ⊎ (j * w + w ≤ y) → get_or (with_part w l j r) y z ≡ get_or l y z
    at_other y (inl h) = at_before y h
    at_other y (inr h) =
        let e : y ≡ j * w + (w + (y - (j * w + w))) = omega arith in
        let e' : j * w + w + (y - (j * w + w)) ≡ y = omega arith in
        ap (λ (n : ℕ). get_or (with_part w l j r) n z) e ∙ (at_after (y - (j * w + w)) ∙ ap (λ (n : ℕ). get_or l n z) e')

    -- two parts do not overlap
    side : (i : ℕ) → i ≢ j → (x : ℕ) → x < w → (b : Bool) → ltb i j ≡ b → (i * w + x < j * w) ⊎ (j * w + w ≤ i * w + x)
    side i d x u true e = let g : suc i * w ≤ j * w = mul-le-mul_right w (ltb-true i j e) in inl (omega arith)
    side i d x u false e =
        let h = ltb-false i j e in
        let g : suc j * w ≤ i * w = mul-le-mul_right w (omega (arith, d)) in
        inr (omega arith)

    pub part_other : (i : ℕ) → i ≢ j → i * w + w ≤ length l → part_of w (with_part w l j r) i ≡ part_of w l i
    part_other i d h =
        let after = with_part w l j r in
        let la : length (part_of w after i) ≡ w = length-take-le w (drop (i * w) after) (simp length-drop (omega (arith, part_length))) in
        let lb : length (part_of w l i) ≡ w = length-take-le w (drop (i * w) l) (simp length-drop (omega arith)) in
        ext_get_or z (part_of w after i) (part_of w l i) (la ∙ sym lb)
        (λ x q. let u : x < w = omega (arith, la, q) in
        get_or-take w (drop (i * w) after) x z u
        ∙ (get_or-drop (i * w) after x z
        ∙ (at_other (i * w + x) (side i d x u (ltb i j) refl)
        ∙ sym (get_or-take w (drop (i * w) l) x z u ∙ get_or-drop (i * w) l x z))))

-- the same of node records
module _ (nodes : List ℤ) (j : ℕ) (r : List ℤ) (fits : j * record_places + record_places ≤ length nodes) (size : length r ≡ record_places) where
  pub record_same : record_of (with_record nodes j r) j ≡ r
  unfolding record_of with_record
  record_same = part_same (pos 0) record_places nodes j r fits size

  pub with_length : length (with_record nodes j r) ≡ length nodes
  unfolding with_record
  with_length = part_length (pos 0) record_places nodes j r fits size

  pub record_other : (i : ℕ) → i ≢ j → i * record_places + record_places ≤ length nodes → record_of (with_record nodes j r) i ≡ record_of nodes i
  unfolding record_of with_record
  record_other i d h = part_other (pos 0) record_places nodes j r fits size i d h

-- a record that the table holds whole has its size
pub record_length : (nodes : List ℤ) (j : ℕ) → j * record_places + record_places ≤ length nodes → length (record_of nodes j) ≡ record_places
unfolding record_of
record_length nodes j fits = length-take-le record_places (drop (j * record_places) nodes) (simp length-drop (omega arith))

-- the code's part of a table from a to e, the start of node j's record and the place behind it, is that record
module _ (nodes : List ℤ) (j a e : ℕ) (starts : a ≡ j * record_places) (ends : e ≡ j * record_places + record_places) where
  sized : e - a ≡ record_places
  sized = omega arith

  pub part_is : take (e - a) (drop a nodes) ≡ record_of nodes j
  unfolding record_of
  part_is = rw (sized, starts)

  -- and the table with r put into the place of that part is the table with r for the record
  pub put_is : (r : List ℤ) → put_mid a (e - a) nodes r ≡ with_record nodes j r
  unfolding with_record
  put_is r = rw (Post-is a e nodes (omega arith), starts, ends)
