-- `tables::given::words_of` meets its contract: after j turns the first j words stand for the first j samples.
use mathlib.Core.Path.{◌≡◌, refl, sym, ap, ap₂, subst, ◌∙◌}
use mathlib.Core.List.{List, [], ◌∷◌, ◌++◌}
use Prim.Native.Nat.{ℕ, ◌+◌, ◌<◌}
use native.Mathlib.Omega.{arith}
use native.Mathlib.Numerals.{add-one}
use lib.IntN.{ℤ, pos}
use lib.ListN.{length, length-set, get_or, take, set}
use lib.Seq.{take_all, take-suc, take-suc-set}
use mir.Syntax.{w32}
use mir.Facts.{to_z-of_z}
use Rattle.integer.proofs.Width.{of_mag, read}
use Rattle.segment.specs.Stored.{sample_of, samples_of}
use Rattle.segment.proofs.Steps.{read_plain}
use Rattle.segment.proofs.Stored.{samples_joined}
use Rattle.tables.proofs.given.words_of.Goals as goal

-- a word more stands for a sample more
one_more : (words trace : List ℤ) (j : ℕ) (w : ℤ) → j < length words → j < length trace → samples_of (take j words) ≡ take j trace
    → sample_of w ≡ get_or trace j (pos 0) → samples_of (take (j + 1) (set words j w)) ≡ take (j + 1) trace
one_more words trace j w h k e f =
    rw (add-one j)
    (ap samples_of (take-suc-set words j w h) ∙ samples_joined (take j words) (w ∷ [])
    ∙ ap₂ (λ (l : List ℤ) (z : ℤ). l ++ (z ∷ [])) e f ∙ sym (take-suc trace j (pos 0) k))

-- the sample of the word that is written
sample : (c : goal.After-word_of)
    → sample_of (read w32 c.word_of.result)
    ≡ get_or c.args.trace.now c.loop-j.j (pos 0)
sample c =
    let l = c.loop-j in
    let trace = c.args.trace.now in
    ap sample_of (to_z-of_z (of_mag {w = w32} c.word_of.result c.word_of.type_inv)) ∙ c.word_of.ensures.back
    ∙ read_plain trace l.j c.word_of-arg-1.given

pub loop-j-init : goal.loop-j-init
loop-j-init c = (omega arith, refl, refl)

pub word_of-requires : goal.word_of-requires
word_of-requires c =
    let l = c.loop-j in
    rw (read_plain c.args.trace.now l.j c.word_of-arg-1.given) (c.requires.1 l.j (omega arith))

pub loop-j-preserved : goal.loop-j-preserved
loop-j-preserved c =
    let l = c.loop-j in (
      omega arith,
      one_more l.words c.args.trace.now l.j (read w32 c.word_of.result) (omega arith) (omega arith) l.invariant.1 (sample c),
      simp length-set l.invariant.2,
    )

pub returns : goal.returns
returns c =
    let l = c.loop-j in
    let a = c.args in
    let e : l.j ≡ length a.trace.now = omega arith in record {
      words_after = subst (λ (n : ℕ). samples_of (take n l.words) ≡ take n a.trace.now) e l.invariant.1
          ∙ take_all (length a.trace.now) a.trace.now (omega arith);
      long = l.invariant.2;
    }
