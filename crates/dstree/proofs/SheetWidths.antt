-- Which of the two formats a library takes and a sheet is in, and what follows for the conditions of a sheet's range.
use Prim.Native.Nat.{ℕ}
use mathlib.Core.Path.{◌≡◌, refl, sym, ◌∙◌, ap}
use mathlib.Core.Bool.{Bool, true, false, not, ◌&&◌}
use mathlib.Core.Option.{Option, none}
use mathlib.Core.List.{List, [], ◌∷◌, flatten}
use native.Mathlib.Omega.{arith}
use lib.Signed.{mag}
use lib.Dec.{T, ltb, ltb→lt, lt→ltb}
use borrow.Author.Tests.{not-false}
use Rattle.integer.specs.Words.{every}
use Rattle.integer.proofs.Tests.{is_true, test_true}
use Rattle.integer.proofs.Lists.{All, all_none, all_more, all_mono, all_every, every_all}
use Rattle.dstree.specs.Measures.{Trace, Measures, are_within, are_samples}
use Rattle.dstree.specs.Labels.{Label}
use Rattle.dstree.specs.Refusals.{Refusal, first_of}
use Rattle.dstree.specs.Sheet.{bytes_of, Format, narrow_limit, block, sealed, blocks_of, sheet_as, blocks_in, conditions_as, Judged}
use Rattle.dstree.specs.Sheet.{refused, holds, judged_by, library_in, judge_as}
use Rattle.dstree.specs.SheetWidths.{format_by, all_narrow, is_wide, format_in, traces_held, range_conditions, sheet_conditions, judge_sheet}
use Rattle.dstree.proofs.Conditions.{NoneOf, none_of, of_none, first_none, none_both}
use Rattle.dstree.proofs.Libraries.{AllWithinLimit, Library}
use Rattle.dstree.proofs.SheetFormat.{SoundFormat, narrow_sound, wide_half, wide_sound}
use Rattle.dstree.proofs.SheetRead.{judged_none}

-- ---- both formats are sound

abbrev pub half_by : Bool → ℕ
half_by true = wide_half
half_by false = narrow_limit

pub format_sound : (w : Bool) → SoundFormat (format_by w) (half_by w)
format_sound true = wide_sound
format_sound false = narrow_sound

-- ---- samples within a limit

module _ (limit : ℕ) where
  pub within_all : (traces : List Trace) → T (every (are_within limit) traces) → All (AllWithinLimit limit) traces
  within_all traces t =
      all_mono (λ x u. all_mono (λ z p. ltb→lt (mag z) limit p) (every_all (λ sample. ltb (mag sample) limit) x u))
      (every_all (are_within limit) traces t)

  pub all_within : {traces : List Trace} → All (AllWithinLimit limit) traces → T (every (are_within limit) traces)
  all_within h =
      all_every (are_within limit)
      (all_mono (λ x k. all_every (λ sample. ltb (mag sample) limit) (all_mono (λ z p. lt→ltb (mag z) limit p) k)) h)

  -- a library of any limit, within another
  pub within_library : {other : ℕ} {m : Measures} {traces : List Trace} → Library other m traces → T (every (are_within limit) traces)
      → Library limit m traces
  within_library {traces = traces} l t =
      record { measured = l.measured; room = l.room; even = l.even; small = within_all traces t }

-- ---- the kind of a written sheet's block 0

module _ (m : Measures) (traces : List Trace) (labels : List Label) where
  pub written_wide : (w : Bool) → is_wide (sheet_as (format_by w) m traces labels) ≡ w
  unfolding is_wide sheet_as blocks_of block sealed bytes_of flatten
  written_wide true = refl
  written_wide false = refl

-- ---- a sheet by the conditions of its format and those of its range

module _ (m : Measures) (traces : List Trace) (labels : List Label) where
  traces_of : Judged → List Trace
  traces_of (refused r) = []
  traces_of (holds m traces labels) = traces

  -- what the blocks hold is what a sheet holds
  held : (f : Format) (bs : List (List ℕ)) → library_in f bs ≡ holds m traces labels → traces_held f bs ≡ traces
  unfolding library_in traces_held traces_of
  held f [] e = let z : ◌≡◌ {A = ℕ} 0 1 = cc in absurd (omega arith)
  held f (first ∷ others) e = ap traces_of e

  module _ (bytes : List ℕ) where
    abbrev ranged : List Trace → Option Refusal
    ranged xs = first_of (range_conditions (is_wide bytes) xs)

    pub sheet_judged : judge_as (format_in bytes) bytes ≡ holds m traces labels → first_of (range_conditions (is_wide bytes) traces) ≡ none
        → judge_sheet bytes ≡ holds m traces labels
    unfolding judge_as judge_sheet judged_by sheet_conditions
    sheet_judged e fine =
        let both = judged_none (first_of (conditions_as (format_in bytes) bytes)) (library_in (format_in bytes) (blocks_in bytes)) m traces labels e in
        let second = ap ranged (held (format_in bytes) (blocks_in bytes) both.1) ∙ fine in
        ap (λ (o : Option Refusal). judged_by o (library_in (format_in bytes) (blocks_in bytes)))
        (first_none (conditions_as (format_in bytes) bytes) (range_conditions (is_wide bytes) (traces_held (format_in bytes) (blocks_in bytes))) both.0 ∙ second)
        ∙ both.1

    pub judged_as : judge_sheet bytes ≡ holds m traces labels
        → (judge_as (format_in bytes) bytes ≡ holds m traces labels) × (first_of (range_conditions (is_wide bytes) traces) ≡ none)
    unfolding judge_as judge_sheet judged_by sheet_conditions
    judged_as e =
        let both = judged_none (first_of (sheet_conditions bytes)) (library_in (format_in bytes) (blocks_in bytes)) m traces labels e in
        let each = none_both (conditions_as (format_in bytes) bytes) (range_conditions (is_wide bytes) (traces_held (format_in bytes) (blocks_in bytes))) both.0 in (
          ap (λ (o : Option Refusal). judged_by o (library_in (format_in bytes) (blocks_in bytes))) each.0 ∙ both.1,
          sym (ap ranged (held (format_in bytes) (blocks_in bytes) both.1)) ∙ each.1,
        )

-- ---- the conditions of its range

module _ (w : Bool) (traces : List Trace) where
  -- a library in the format that it takes, within the limits
  pub in_range_lem : not (all_narrow traces) ≡ w → T (every are_samples traces) → first_of (range_conditions w traces) ≡ none
  unfolding range_conditions
  in_range_lem e t = of_none (all_more (ap (λ (b : Bool). b && all_narrow traces) (sym e) ∙ never (all_narrow traces)) (all_more (ap not (test_true (every are_samples traces) t)) all_none))
    where
      never : (b : Bool) → not b && b ≡ false
      never true = refl
      never false = refl

  module _ (fine : first_of (range_conditions w traces) ≡ none) where
    parts : (w && all_narrow traces ≡ false) × (not (every are_samples traces) ≡ false)
    unfolding range_conditions
    parts = by (none_of (range_conditions w traces) fine)
      where
        by : NoneOf (range_conditions w traces) → (w && all_narrow traces ≡ false) × (not (every are_samples traces) ≡ false)
        by (all_more a (all_more b all_none)) = (a, b)

    pub all_samples : T (every are_samples traces)
    all_samples = is_true (not-false (every are_samples traces) parts.1)

    -- the format is that of the traces, if those of a narrow sheet are narrow
    pub own_format : (w ≡ false → T (all_narrow traces)) → not (all_narrow traces) ≡ w
    own_format narrow_fits = by w refl
      where
        by : (b : Bool) → w ≡ b → not (all_narrow traces) ≡ w
        by true e = ap not (sym (ap (λ (b : Bool). b && all_narrow traces) e) ∙ parts.0) ∙ sym e
        by false e = ap not (test_true (all_narrow traces) (narrow_fits e)) ∙ sym e
