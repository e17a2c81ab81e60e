-- `sheet::samples::copy_samples` meets its contract: the first i places hold the first i samples' words.
use mathlib.Core.Path.{◌≡◌, refl, sym, ap, ap₂, ◌∙◌, subst}
use mathlib.Core.Bool.{Bool, true, false}
use mathlib.Core.List.{List, ◌∷◌, [], ◌++◌}
use Prim.Native.Nat.{ℕ, suc, ◌*◌, ◌<◌}
use native.Mathlib.Nat.{mul_comm}
use native.Mathlib.Numerals.{add-one}
use native.Mathlib.Omega.{arith}
use lib.IntN.{ℤ}
use lib.Signed.{mag}
use lib.ListN.{length, length-set}
use lib.Seq.{take-suc-set}
use mir.Syntax.{w32}
use mir.Val.{to_z, of_z}
use mir.Facts.{to_z-of_z}
use Rattle.integer.proofs.Rows.{map_append}
use Rattle.integer.proofs.Width.{of_mag, read}
use Rattle.segment.specs.Limits.{sample_most, SamplesWithin}
use Rattle.segment.specs.Stored.{word_of, samples_of, words_of}
use Rattle.segment.proofs.Stored.{sample_back, samples_joined}
use Rattle.dstree.specs.Sheet.{Format, part, narrow_limit, decoded}
use Rattle.dstree.specs.SheetWidths.{format_by}
use Rattle.sheet.specs.Codes.{samples_in}
use Rattle.sheet.specs.Formats.{says_wide}
use Rattle.sheet.proofs.SamplesIn.{samples_none, samples_more, samples_length, samples_at}
use Rattle.sheet.proofs.samples.copy_samples.Goals as goal

-- the words of one sample more
words_more : (f : Format) (i : ℕ) (bytes : List ℕ)
    → words_of (samples_in f (suc i) bytes)
    ≡ words_of (samples_in f i bytes) ++ (word_of (decoded f (part (i * f.sample_bytes) f.sample_bytes bytes)) ∷ [])
words_more f i bytes =
    let more = decoded f (part (i * f.sample_bytes) f.sample_bytes bytes) ∷ [] in
    ap words_of (samples_more f i bytes) ∙ map_append word_of (samples_in f i bytes) more

-- in a turn: v is the sample that is read
module _ (four : Bool) (bytes : List ℕ) (all size i : ℕ) (v : ℤ) (size_is : size ≡ (format_by four).sample_bytes) (here : i < all) where
  abbrev f : Format
  f = format_by four

  abbrev sample : ℤ
  sample = decoded f (part (i * f.sample_bytes) f.sample_bytes bytes)

  -- it stands at its place
  read_is : v ≡ decoded f (part (size * i) f.sample_bytes bytes) → v ≡ sample
  read_is e = e ∙ ap (λ (k : ℕ). decoded f (part k f.sample_bytes bytes)) (mul_comm size i ∙ ap (λ (k : ℕ). i * k) size_is)

  value : mag v < 2147483648 → v ≡ decoded f (part (size * i) f.sample_bytes bytes) → read w32 v ≡ sample
  value fits e = to_z-of_z (of_mag {w = w32} v fits) ∙ read_is e

  small : (four ≡ true → SamplesWithin sample_most (samples_in f all bytes)) → (four ≡ false → mag v < narrow_limit)
      → v ≡ decoded f (part (size * i) f.sample_bytes bytes) → mag sample < sample_most
  small wide narrow e = by four refl
    where
      by : (b : Bool) → four ≡ b → mag sample < sample_most
      by true t =
          subst (λ (z : ℤ). mag z < sample_most) (samples_at f all i bytes here)
          (wide t i (subst (λ (k : ℕ). i < k) (sym (samples_length f all bytes)) here))
      by false t = subst (λ (z : ℤ). mag z < sample_most) (read_is e) (omega (arith, narrow t))

pub loop-i-init : goal.loop-i-init
loop-i-init c =
    let a = c.args in
    let none = samples_none (format_by (says_wide a.format)) a.bytes.now in
    (omega arith, refl, ap words_of (sym none), ap (λ (l : List ℤ). samples_of (words_of l)) none ∙ sym none)

pub word_of-requires : goal.word_of-requires
word_of-requires c =
    let a = c.args in
    let r = c.sample_at in
    let all = length a.places.now in
    let size = c.sample_bytes-size.result in
    let size_is = c.sample_bytes-size.ensures.value in
    let here : c.loop-i.i < all = omega (arith, c.loop-i-test.true, c.loop-i.invariant.1) in
    subst (λ (z : ℤ). mag z < sample_most)
    (sym (value (says_wide a.format) a.bytes.now all size c.loop-i.i r.result size_is here r.type_inv r.ensures.value))
    (small (says_wide a.format) a.bytes.now all size c.loop-i.i r.result size_is here c.requires.1 r.ensures.size r.ensures.value)

pub loop-i-preserved : goal.loop-i-preserved
loop-i-preserved c =
    let a = c.args in
    let r = c.sample_at in
    let m = c.loop-i in
    let bytes = a.bytes.now in
    let all = length a.places.now in
    let size = c.sample_bytes-size.result in
    let size_is = c.sample_bytes-size.ensures.value in
    let here : m.i < all = omega (arith, c.loop-i-test.true, m.invariant.1) in
    let f = format_by (says_wide a.format) in
    let sample = decoded f (part (m.i * f.sample_bytes) f.sample_bytes bytes) in
    let w = c.word_of.result in
    let word_is : to_z w32 (of_z w32 w) ≡ word_of sample =
    to_z-of_z (of_mag {w = w32} w c.word_of.type_inv) ∙ c.word_of.ensures.value
    ∙ ap word_of (value (says_wide a.format) bytes all size m.i r.result size_is here r.type_inv r.ensures.value) in
    let back = sample_back sample (small (says_wide a.format) bytes all size m.i r.result size_is here c.requires.1 r.ensures.size r.ensures.value) in (
      simp length-set (omega (arith, c.loop-i-test.true)),
      length-set m.places m.i (to_z w32 (of_z w32 w)) ∙ m.invariant.1,
      rw (add-one m.i) (take-suc-set m.places m.i (to_z w32 (of_z w32 w)) (omega arith)
          ∙ ap₂ (λ (x : List ℤ) (z : ℤ). x ++ (z ∷ [])) m.invariant.2 word_is
          ∙ sym (words_more f m.i bytes)),
      rw (add-one m.i) (ap samples_of (words_more f m.i bytes)
          ∙ samples_joined (words_of (samples_in f m.i bytes)) (word_of sample ∷ [])
          ∙ ap₂ (λ (x : List ℤ) (z : ℤ). x ++ (z ∷ [])) m.invariant.3 back
          ∙ sym (samples_more f m.i bytes)),
    )
