-- `sheet_blocks::blocks::kind_fits` meets its contract: block 0 has a kind of its own; behind a block of labels there are labels alone.
use mathlib.Core.Path.{◌≡◌, refl, sym, ap, ◌∙◌}
use mathlib.Core.Bool.{true, false}
use Prim.Native.Nat.{ℕ, zero, suc}
use lib.Dec.{eqb}
use borrow.Author.Tests.{ne_eqb}
use Rattle.integer.proofs.Tests.{and_true, and_false}
use Rattle.dstree.specs.Sheet.{Format, label_kind, is_kind}
use Rattle.sheet.specs.Formats.{format_by}
use Rattle.sheet_blocks.proofs.blocks.kind_fits.Goals as goal

module _ (f : Format) (before kind : ℕ) where
  head : (number : ℕ) → number ≡ 0 → eqb kind f.head_kind ≡ is_kind f number before kind
  unfolding is_kind
  head number e = rw e refl

  labels : (number : ℕ) → (number ≡ 0 → ⊥) → kind ≡ label_kind → true ≡ is_kind f number before kind
  unfolding is_kind
  labels zero n e = absurd (n refl)
  labels (suc number) n e = rw e refl

  behind_labels : (number : ℕ) → (number ≡ 0 → ⊥) → (kind ≡ label_kind → ⊥) → before ≡ label_kind → false ≡ is_kind f number before kind
  unfolding is_kind
  behind_labels zero n g e = absurd (n refl)
  behind_labels (suc number) n g e = rw (ne_eqb kind label_kind g, e) (sym (and_false (eqb kind f.sample_kind)))

  samples : (number : ℕ) → (number ≡ 0 → ⊥) → (kind ≡ label_kind → ⊥) → (before ≡ label_kind → ⊥)
      → eqb kind f.sample_kind ≡ is_kind f number before kind
  unfolding is_kind
  samples zero n g h = absurd (n refl)
  samples (suc number) n g h = rw (ne_eqb kind label_kind g, ne_eqb before label_kind h) (sym (and_true (eqb kind f.sample_kind)))

pub returns-then-number-eq0 : goal.returns-then-number-eq0
returns-then-number-eq0 c =
    let a = c.args in
    ap (eqb a.kind) c.from.ensures ∙ head (format_by a.format) a.before a.kind a.number c.if-number-eq0.true

pub returns-then-kind-labels : goal.returns-then-kind-labels
returns-then-kind-labels c =
    let a = c.args in
    labels (format_by a.format) a.before a.kind a.number c.if-number-eq0.false (c.if-kind-labels.true ∙ c.from-labels.ensures)

pub returns-then-before-labels : goal.returns-then-before-labels
returns-then-before-labels c =
    let a = c.args in
    behind_labels (format_by a.format) a.before a.kind a.number c.if-number-eq0.false (λ e. c.if-kind-labels.false (e ∙ sym c.from-labels.ensures)) (c.if-before-labels.true ∙ c.from-labels.ensures)

pub returns : goal.returns
returns c =
    let a = c.args in
    let own : a.kind ≡ label_kind → ⊥ = λ e. c.if-kind-labels.false (e ∙ sym c.from-labels.ensures) in
    let behind : a.before ≡ label_kind → ⊥ = λ e. c.if-before-labels.false (e ∙ sym c.from-labels.ensures) in
    ap (eqb a.kind) c.from-2.ensures ∙ samples (format_by a.format) a.before a.kind a.number c.if-number-eq0.false own behind
