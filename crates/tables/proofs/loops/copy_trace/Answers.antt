-- `tables::loops::copy_trace` meets its contract: after j turns the first j samples of the trace are copied. The measure is how many are
-- left.
use mathlib.Core.Path.{◌≡◌, refl, sym, ap, subst, ◌∙◌}
use mathlib.Core.List.{List}
use Prim.Native.Nat.{ℕ, ◌+◌, ◌<◌}
use native.Mathlib.Omega.{arith}
use native.Mathlib.Numerals.{add-one}
use lib.IntN.{ℤ, pos}
use lib.ListN.{length, length-set, length-map, get_or, get_or-map}
use lib.Seq.{paste, paste-zero, paste-suc}
use mir.Syntax.{w32}
use mir.Facts.{to_z-of_z}
use Rattle.integer.proofs.Width.{of_mag, read}
use Rattle.segment.specs.Stored.{word_of, samples_of}
use Rattle.segment.proofs.Steps.{read_word}
use Rattle.segment.proofs.Stored.{samples_length}
use Rattle.tables.proofs.loops.copy_trace.Invariants.{cleared}
use Rattle.tables.proofs.loops.copy_trace.Goals as goal

cleared_length : (trace : List ℤ) → length (cleared trace) ≡ length trace
cleared_length trace = length-map (samples_of trace) word_of ∙ samples_length trace

-- the sample that is read
sample : (c : goal.After-sample_of) → read w32 c.sample_of.result ≡ c.sample_of.result
sample c = to_z-of_z (of_mag {w = w32} c.sample_of.result c.sample_of.type_inv)

-- the word that is written for it
word : (c : goal.After-word_of)
    → read w32 c.word_of.result
    ≡ get_or (cleared c.args.trace.now) c.loop-j.j (pos 0)
unfolding word_of
word c =
    let l = c.loop-j in
    let trace = c.args.trace.now in
    to_z-of_z (of_mag {w = w32} c.word_of.result c.word_of.type_inv) ∙ c.word_of.ensures.value
    ∙ ap word_of (sample c.before ∙ c.sample_of.ensures.value ∙ read_word trace l.j c.sample_of-arg-1.given)
    ∙ sym (get_or-map word_of (samples_of trace) l.j (pos 0))

pub loop-j-init : goal.loop-j-init
loop-j-init c = (omega arith, paste-zero c.args.samples.now c.args.at (cleared c.args.trace.now), refl)

pub word_of-requires : goal.word_of-requires
word_of-requires c = rw (sample c) c.sample_of.ensures.size

pub loop-j-preserved : goal.loop-j-preserved
loop-j-preserved c =
    let l = c.loop-j in
    let a = c.args in
    let trace = a.trace.now in
    let h : a.at + l.j < length a.samples.now = omega arith in
    let k : l.j < length (cleared trace) = omega (arith, cleared_length trace) in (
      omega arith,
      rw (l.invariant.1, add-one l.j, word c) (paste-suc a.samples.now a.at (cleared trace) l.j (pos 0) h k),
      simp length-set l.invariant.2,
    )

pub returns : goal.returns
returns c =
    let l = c.loop-j in
    let a = c.args in
    let e : l.j ≡ length a.trace.now = omega arith in
    subst (λ (n : ℕ). l.samples ≡ paste a.samples.now a.at (cleared a.trace.now) n) e l.invariant.1
