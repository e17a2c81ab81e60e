-- `recording::header::rates_fit` meets its contract: the rate is what the file says; each return answers for one field behind it.
use Prim.Native.Nat.{ℕ, ◌*◌}
use mathlib.Core.Path.{◌≡◌, refl, sym, ap, ◌∙◌}
use mathlib.Core.List.{List}
use lib.Dec.{eqb}
use Rattle.dstree.specs.Sheet.{part, number_in}
use Rattle.dstree.specs.Recording.{header, rate_in}
use Rattle.recording.proofs.Begins.{field_fails, field_fits, field_last}
use Rattle.recording.proofs.header.rates_fit.Goals as goal

rate_here : (bytes : List ℕ) → number_in (part 24 4 bytes) ≡ rate_in bytes
unfolding rate_in
rate_here bytes = refl

twice : (bytes : List ℕ) (k : ℕ) → k ≡ number_in (part 24 4 bytes) → 2 * k ≡ 2 * rate_in bytes
twice bytes k e = ap (λ (k : ℕ). 2 * k) (e ∙ rate_here bytes)

pub returns-then-four_bytes : goal.returns-then-four_bytes
unfolding header
returns-then-four_bytes c =
    let b = c.args.bytes.now in
    sym (field_fits 24 4 (rate_in b) _ b (rate_here b)
    ∙ field_fails 28 4 (2 * rate_in b) _ b (λ e. c.if-four_bytes.true (c.four_bytes.ensures.0 ∙ e ∙ sym (twice b _ c.four_bytes-2.ensures.0))))

pub returns-then-two_bytes-ne2 : goal.returns-then-two_bytes-ne2
unfolding header
returns-then-two_bytes-ne2 c =
    let b = c.args.bytes.now in
    sym (field_fits 24 4 (rate_in b) _ b (rate_here b)
    ∙ field_fits 28 4 (2 * rate_in b) _ b (sym c.four_bytes.ensures.0 ∙ c.if-four_bytes.false ∙ twice b _ c.four_bytes-2.ensures.0)
    ∙ field_fails 32 2 2 _ b (λ e. c.if-two_bytes-ne2.true (c.two_bytes.ensures.0 ∙ e)))

pub returns : goal.returns
unfolding header
returns c =
    let b = c.args.bytes.now in
    ap (λ (k : ℕ). eqb k 16) c.two_bytes-2.ensures.0
    ∙ sym (field_fits 24 4 (rate_in b) _ b (rate_here b)
    ∙ field_fits 28 4 (2 * rate_in b) _ b (sym c.four_bytes.ensures.0 ∙ c.if-four_bytes.false ∙ twice b _ c.four_bytes-2.ensures.0)
    ∙ field_fits 32 2 2 _ b (sym c.two_bytes.ensures.0 ∙ c.if-two_bytes-ne2.false) ∙ field_last 34 2 16 b)
