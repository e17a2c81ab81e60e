-- `recording::header::format_fits` meets its contract: each return answers for one field, those before it being as they should.
use Prim.Native.Nat.{ℕ}
use mathlib.Core.Path.{refl, sym, ap, ◌∙◌}
use native.Mathlib.Omega.{arith}
use lib.Dec.{eqb}
use borrow.Author.Tests.{not-true, not-false}
use Rattle.dstree.specs.Sheet.{number_in}
use Rattle.dstree.specs.Recording.{letters_fmt, header}
use Rattle.recording.proofs.Begins.{field_fails, field_fits, field_last}
use Rattle.recording.proofs.Words.{word_same, word_differs, fmt_bytes}
use Rattle.recording.proofs.header.format_fits.Goals as goal

pub returns-then-ne : goal.returns-then-ne
unfolding header
returns-then-ne c =
    let b = c.args.bytes.now in
    sym (field_fails 12 4 (number_in letters_fmt) _ b
    (word_differs b (λ i. omega (arith, (c.type_inv.bytes i).fits)) 12 (omega arith) letters_fmt fmt_bytes refl (not-true _ (sym c.ne.ensures ∙ c.if-ne.true))))

pub returns-then-four_bytes-ne16 : goal.returns-then-four_bytes-ne16
unfolding header
returns-then-four_bytes-ne16 c =
    let b = c.args.bytes.now in
    let fmt = word_same b (λ i. omega (arith, (c.type_inv.bytes i).fits)) 12 (omega arith) letters_fmt fmt_bytes refl (not-false _ (sym c.ne.ensures ∙ c.if-ne.false)) in
    sym (field_fits 12 4 (number_in letters_fmt) _ b fmt
    ∙ field_fails 16 4 16 _ b (λ e. c.if-four_bytes-ne16.true (c.four_bytes.ensures.0 ∙ e)))

pub returns-then-two_bytes-ne1 : goal.returns-then-two_bytes-ne1
unfolding header
returns-then-two_bytes-ne1 c =
    let b = c.args.bytes.now in
    let fmt = word_same b (λ i. omega (arith, (c.type_inv.bytes i).fits)) 12 (omega arith) letters_fmt fmt_bytes refl (not-false _ (sym c.ne.ensures ∙ c.if-ne.false)) in
    sym (field_fits 12 4 (number_in letters_fmt) _ b fmt
    ∙ field_fits 16 4 16 _ b (sym c.four_bytes.ensures.0 ∙ c.if-four_bytes-ne16.false)
    ∙ field_fails 20 2 1 _ b (λ e. c.if-two_bytes-ne1.true (c.two_bytes.ensures.0 ∙ e)))

pub returns : goal.returns
unfolding header
returns c =
    let b = c.args.bytes.now in
    let fmt = word_same b (λ i. omega (arith, (c.type_inv.bytes i).fits)) 12 (omega arith) letters_fmt fmt_bytes refl (not-false _ (sym c.ne.ensures ∙ c.if-ne.false)) in
    ap (λ (k : ℕ). eqb k 1) c.two_bytes-2.ensures.0
    ∙ sym (field_fits 12 4 (number_in letters_fmt) _ b fmt
    ∙ field_fits 16 4 16 _ b (sym c.four_bytes.ensures.0 ∙ c.if-four_bytes-ne16.false)
    ∙ field_fits 20 2 1 _ b (sym c.two_bytes.ensures.0 ∙ c.if-two_bytes-ne1.false) ∙ field_last 22 2 1 b)
