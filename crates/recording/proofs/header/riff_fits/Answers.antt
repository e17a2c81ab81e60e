-- `recording::header::riff_fits` meets its contract: each return answers for one field, those before it being as they should.
use Prim.Native.Nat.{ℕ, ◌+◌}
use mathlib.Core.Path.{◌≡◌, refl, sym, ap, ◌∙◌}
use mathlib.Core.List.{List}
use native.Mathlib.Omega.{arith}
use borrow.Author.Tests.{not-true, not-false}
use Rattle.dstree.specs.Sheet.{part, number_in}
use Rattle.dstree.specs.Recording.{letters_riff, letters_wave, header, size_in}
use Rattle.recording.proofs.Begins.{field_fails, field_fits, field_last}
use Rattle.recording.proofs.Words.{word_is, word_same, word_differs, riff_bytes, wave_bytes}
use Rattle.recording.proofs.header.riff_fits.Goals as goal

-- the size in the bytes
size_is : (bytes : List ℕ) (k : ℕ) → k ≡ number_in (part 40 4 bytes) → 36 + k ≡ 36 + size_in bytes
unfolding size_in
size_is bytes k e = ap (λ (k : ℕ). 36 + k) e

pub returns-then-ne : goal.returns-then-ne
unfolding header
returns-then-ne c =
    let b = c.args.bytes.now in
    sym (field_fails 0 4 (number_in letters_riff) _ b
    (word_differs b (λ i. omega (arith, (c.type_inv.bytes i).fits)) 0 (omega arith) letters_riff riff_bytes refl (not-true _ (sym c.ne.ensures ∙ c.if-ne.true))))

pub returns-then-four_bytes : goal.returns-then-four_bytes
unfolding header
returns-then-four_bytes c =
    let b = c.args.bytes.now in
    let riff = word_same b (λ i. omega (arith, (c.type_inv.bytes i).fits)) 0 (omega arith) letters_riff riff_bytes refl (not-false _ (sym c.ne.ensures ∙ c.if-ne.false)) in
    sym (field_fits 0 4 (number_in letters_riff) _ b riff
    ∙ field_fails 4 4 (36 + size_in b) _ b (λ e. c.if-four_bytes.true (c.four_bytes.ensures.0 ∙ e ∙ sym (size_is b _ c.four_bytes-2.ensures.0))))

pub returns : goal.returns
unfolding header
returns c =
    let b = c.args.bytes.now in
    let riff = word_same b (λ i. omega (arith, (c.type_inv.bytes i).fits)) 0 (omega arith) letters_riff riff_bytes refl (not-false _ (sym c.ne.ensures ∙ c.if-ne.false)) in
    c.eq.ensures ∙ word_is b (λ i. omega (arith, (c.type_inv.bytes i).fits)) 8 (omega arith) letters_wave wave_bytes refl
    ∙ sym (field_fits 0 4 (number_in letters_riff) _ b riff
    ∙ field_fits 4 4 (36 + size_in b) _ b (sym c.four_bytes.ensures.0 ∙ c.if-four_bytes.false ∙ size_is b _ c.four_bytes-2.ensures.0)
    ∙ field_last 8 4 (number_in letters_wave) b)
