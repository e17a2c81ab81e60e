-- `recording::judging::is_recording` meets its contract: each return answers for one test, those before it being passed.
use Prim.Native.Nat.{ℕ, ◌+◌, ◌/◌, ◌%◌, ◌<◌}
use mathlib.Core.Path.{◌≡◌, sym, ap, ◌∙◌}
use mathlib.Core.Bool.{true}
use mathlib.Core.List.{List}
use native.Mathlib.Omega.{arith}
use lib.ListN.{length}
use lib.Dec.{ltb, eqb}
use borrow.Author.Tests.{eq-eqb, ne_eqb, lt-ltb, le-ltb}
use Rattle.dstree.specs.Sheet.{part, number_in}
use Rattle.dstree.specs.Recording.{header_size, rate_limit, rate_in, size_in, is_recording}
use Rattle.recording.proofs.judging.is_recording.Goals as goal

-- the size and the rate that the bytes say
size_is : (bytes : List ℕ) (k : ℕ) → k ≡ number_in (part 40 4 bytes) → k ≡ size_in bytes
unfolding size_in
size_is bytes k e = e

rate_is : (bytes : List ℕ) (k : ℕ) → k ≡ number_in (part 24 4 bytes) → k ≡ rate_in bytes
unfolding rate_in
rate_is bytes k e = e

-- the length is the header's and the size
long : (bytes : List ℕ) (k : ℕ) → k ≡ number_in (part 40 4 bytes) → length bytes ≡ header_size + k → eqb (length bytes) (header_size + size_in bytes) ≡ true
long bytes k e h = eq-eqb _ _ (h ∙ ap (λ (v : ℕ). header_size + v) (size_is bytes k e))

-- the rate is below the limit
low : (bytes : List ℕ) (k : ℕ) → k ≡ number_in (part 24 4 bytes) → k < 2147483648 → ltb (rate_in bytes) rate_limit ≡ true
low bytes k e h = lt-ltb (rate_in bytes) rate_limit (omega (arith, rate_is bytes k e))

pub returns-then-bytes-lt44 : goal.returns-then-bytes-lt44
unfolding is_recording
returns-then-bytes-lt44 c =
    let bytes = c.args.bytes.now in
    let short : length bytes ≡ header_size + size_in bytes → ⊥ = λ e. omega (arith, e, c.if-bytes-lt44.true) in
    simp (ne_eqb (length bytes) (header_size + size_in bytes) short)

pub returns-then-bytes-size : goal.returns-then-bytes-size
unfolding is_recording
returns-then-bytes-size c =
    let b = c.args.bytes.now in
    simp (ne_eqb (length b) (header_size + size_in b) (λ e. c.if-bytes-size.true (e ∙ ap (λ (k : ℕ). header_size + k) (sym (size_is b _ c.four_bytes-size.ensures.0)))))

pub returns-then-not-header_fits : goal.returns-then-not-header_fits
unfolding is_recording
returns-then-not-header_fits c =
    let b = c.args.bytes.now in
    simp (long b _ c.four_bytes-size.ensures.0 c.if-bytes-size.false, sym c.header_fits.ensures ∙ c.if-not-header_fits.true)

pub returns-then-four_bytes-ge2147483648 : goal.returns-then-four_bytes-ge2147483648
unfolding is_recording
returns-then-four_bytes-ge2147483648 c =
    let b = c.args.bytes.now in
    simp (
      long b _ c.four_bytes-size.ensures.0 c.if-bytes-size.false,
      sym c.header_fits.ensures ∙ c.if-not-header_fits.false,
      le-ltb (rate_in b) rate_limit (omega (arith, rate_is b _ c.four_bytes.ensures.0, c.if-four_bytes-ge2147483648.true)),
    )

pub returns-then-size-ne0 : goal.returns-then-size-ne0
unfolding is_recording
returns-then-size-ne0 c =
    let b = c.args.bytes.now in
    simp (
      long b _ c.four_bytes-size.ensures.0 c.if-bytes-size.false,
      sym c.header_fits.ensures ∙ c.if-not-header_fits.false,
      low b _ c.four_bytes.ensures.0 c.if-four_bytes-ge2147483648.false,
      ne_eqb (size_in b % 2) 0 (λ e. c.if-size-ne0.true (ap (λ (v : ℕ). v % 2) (size_is b _ c.four_bytes-size.ensures.0) ∙ e)),
    )

pub returns : goal.returns
unfolding is_recording
returns c =
    let b = c.args.bytes.now in
    let said = size_is b _ c.four_bytes-size.ensures.0 in
    let even : eqb (size_in b % 2) 0 ≡ true = eq-eqb _ 0 (ap (λ (v : ℕ). v % 2) (sym said) ∙ c.if-size-ne0.false) in
    simp (
      long b _ c.four_bytes-size.ensures.0 c.if-bytes-size.false,
      sym c.header_fits.ensures ∙ c.if-not-header_fits.false,
      low b _ c.four_bytes.ensures.0 c.if-four_bytes-ge2147483648.false,
      even,
    )
    (ap (λ (v : ℕ). eqb (v / 2 % c.args.n) 0) said)
