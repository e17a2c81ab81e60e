-- `sheet::samples::all_narrow` meets its contract: the samples of the words passed fit.
use mathlib.Core.Path.{◌≡◌, refl, sym, ap, ◌∙◌}
use Prim.Native.Nat.{ℕ}
use native.Mathlib.Omega.{arith}
use mathlib.Core.List.{List}
use lib.IntN.{ℤ, pos}
use lib.Signed.{mag}
use lib.ListN.{get_or}
use lib.Seq.{take_all}
use mir.Syntax.{w32}
use mir.Facts.{to_z-of_z}
use Rattle.integer.specs.Words.{every}
use Rattle.integer.proofs.Width.{of_mag, read}
use Rattle.segment.specs.Stored.{sample_of, samples_of}
use Rattle.segment.proofs.Steps.{read_word}
use Rattle.segment.proofs.Stored.{FitsWord, samples_length}
use Rattle.dstree.specs.Measures.{are_within}
use Rattle.dstree.specs.Sheet.{narrow_limit}
use Rattle.sheet.proofs.Within.{within_more, within_not}
use Rattle.sheet.proofs.samples.all_narrow.Goals as goal

-- how far the sample of a word lies from 0, as code finds it
size_is : (words : List ℤ) (i : ℕ) (sample : ℤ) → FitsWord (get_or words i (pos 0)) → FitsWord sample
    → sample ≡ sample_of (read w32 (get_or words i (pos 0))) → mag (read w32 sample) ≡ mag (get_or (samples_of words) i (pos 0))
size_is words i sample word small e = ap mag (to_z-of_z (of_mag {w = w32} sample small) ∙ e ∙ read_word words i word)

pub loop-word-init : goal.loop-word-init
unfolding every
loop-word-init c = refl

pub returns-then-magnitude-ge32768 : goal.returns-then-magnitude-ge32768
returns-then-magnitude-ge32768 c =
    let words = c.args.words.now in
    let i = c.loop-word.word-index in
    let size = size_is words i c.sample_of.result (omega arith) c.sample_of.type_inv c.sample_of.ensures.value in
    sym (within_not narrow_limit (samples_of words) i (omega (arith, samples_length words)) (omega (arith, c.magnitude.ensures, size)))

pub loop-word-preserved : goal.loop-word-preserved
loop-word-preserved c =
    let words = c.args.words.now in
    let i = c.loop-word.word-index in
    let size = size_is words i c.sample_of.result (omega arith) c.sample_of.type_inv c.sample_of.ensures.value in
    within_more narrow_limit (samples_of words) i (omega (arith, samples_length words)) c.loop-word.invariant (omega (arith, c.magnitude.ensures, size))

pub returns : goal.returns
returns c =
    let samples = samples_of c.args.words.now in
    let all = take_all c.loop-word.word-index samples (omega (arith, samples_length c.args.words.now)) in
    sym (sym (ap (are_within narrow_limit) all) ∙ c.loop-word.invariant)
