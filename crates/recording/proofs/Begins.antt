-- A header compared field by field, and section by section.
use Prim.Native.Nat.{ℕ, ◌+◌}
use mathlib.Core.Path.{◌≡◌, refl, sym, ap, ◌∙◌}
use mathlib.Core.Bool.{Bool, true, false, ◌&&◌}
use mathlib.Core.List.{List, [], ◌∷◌, ◌++◌}
use lib.ListN.{length, take, drop, length-append}
use lib.Seq.{drop-drop}
use lib.Dec.{eqb}
use borrow.Author.Tests.{eq-eqb, ne_eqb}
use Rattle.integer.proofs.Tests.{and_true}
use Rattle.dstree.specs.Sheet.{part, bytes_of, number_in}
use Rattle.dstree.specs.Recording.{Field, number, header, field_bytes, begins}
use Rattle.dstree.proofs.SheetFields.{bytes_length}
use Rattle.recording.specs.Sections.{riff_fields, format_fields, rate_fields, data_fields, format_place, rate_place, data_place}

-- the field of a width at a place, and the fields behind it
module _ (place width v : ℕ) (rest : List Field) (bytes : List ℕ) where
  abbrev here : ℕ
  here = number_in (part place width bytes)

  pub field_fails : (here ≡ v → ⊥) → begins (number width v ∷ rest) (drop place bytes) ≡ false
  unfolding begins
  field_fails h = rw (ne_eqb here v h) refl

  pub field_fits : here ≡ v → begins (number width v ∷ rest) (drop place bytes) ≡ begins rest (drop (place + width) bytes)
  unfolding begins
  field_fits e = rw (eq-eqb here v e) (ap (begins rest) (drop-drop width place bytes))

-- the last field
pub field_last : (place width v : ℕ) (bytes : List ℕ) → begins (number width v ∷ []) (drop place bytes) ≡ eqb (number_in (part place width bytes)) v
unfolding begins
field_last place width v bytes = and_true (eqb (number_in (part place width bytes)) v)

-- a field before one that is as it should
pub field_before : (place width v later w : ℕ) (bytes : List ℕ) → number_in (part (place + width) later bytes) ≡ w
    → begins (number width v ∷ number later w ∷ []) (drop place bytes) ≡ eqb (number_in (part place width bytes)) v
unfolding begins
field_before place width v later w bytes e =
    let first = eqb (number_in (part place width bytes)) v in
    let behind : begins (number later w ∷ []) (drop width (drop place bytes)) ≡ true =
    ap (begins (number later w ∷ [])) (drop-drop width place bytes) ∙ field_last (place + width) later w bytes ∙ eq-eqb _ w e in
    ap (λ (b : Bool). first && b) behind ∙ and_true first

-- ---- sections

and_assoc : (a b c : Bool) → (a && b) && c ≡ a && (b && c)
and_assoc true b c = refl
and_assoc false b c = refl

-- some fields behind others
begins_append : (fs gs : List Field) (bytes : List ℕ)
    → begins (fs ++ gs) bytes ≡ begins fs bytes && begins gs (drop (length (field_bytes fs)) bytes)
unfolding begins field_bytes
begins_append [] gs bytes = refl
begins_append (f ∷ fs) gs bytes =
    let first = eqb (number_in (take f.width bytes)) f.value in
    let behind = drop f.width bytes in
    let long : f.width + length (field_bytes fs) ≡ length (bytes_of f.width f.value ++ field_bytes fs) =
    sym (length-append (bytes_of f.width f.value) (field_bytes fs) ∙ ap (λ (k : ℕ). k + length (field_bytes fs)) (bytes_length f.width f.value)) in
    let on = drop-drop (length (field_bytes fs)) f.width bytes ∙ ap (λ (k : ℕ). drop k bytes) long in
    ap (λ (b : Bool). first && b) (begins_append fs gs behind ∙ ap (λ (l : List ℕ). begins fs behind && begins gs l) on)
    ∙ sym (and_assoc first (begins fs behind) _)

module _ (rate size : ℕ) (bytes : List ℕ) where
  abbrev riff : Bool
  riff = begins (riff_fields size) bytes

  abbrev format : Bool
  format = begins format_fields (drop format_place bytes)

  abbrev rates : Bool
  rates = begins (rate_fields rate) (drop rate_place bytes)

  abbrev data_size : Bool
  data_size = begins (data_fields size) (drop data_place bytes)

  pub sections : begins (header rate size) bytes ≡ riff && (format && (rates && data_size))
  unfolding header field_bytes bytes_of
  sections =
      begins_append (riff_fields size) (format_fields ++ (rate_fields rate ++ data_fields size)) bytes
      ∙ ap (λ (b : Bool). riff && b) (begins_append format_fields (rate_fields rate ++ data_fields size) (drop format_place bytes)
      ∙ ap (λ (l : List ℕ). format && begins (rate_fields rate ++ data_fields size) l) (drop-drop 12 format_place bytes)
      ∙ ap (λ (b : Bool). format && b) (begins_append (rate_fields rate) (data_fields size) (drop rate_place bytes)
      ∙ ap (λ (l : List ℕ). rates && begins (data_fields size) l) (drop-drop 12 rate_place bytes)))
