-- `recording::judging::judge_recording` meets its contract: a sound file holds as many traces as its samples make.
use Prim.Native.Nat.{ℕ, ◌/◌}
use mathlib.Core.Path.{◌≡◌, sym, ap, ◌∙◌}
use mathlib.Core.Bool.{Bool, true}
use mathlib.Core.Option.{some}
use mathlib.Core.List.{List}
use native.Mathlib.Omega.{arith}
use Rattle.integer.proofs.Tests.{is_true}
use Rattle.dstree.specs.Sheet.{part, number_in}
use Rattle.dstree.specs.Recording.{size_in, is_recording, judge_recording}
use Rattle.dstree.proofs.Recordings.{SoundFile, passed_sound}
use Rattle.recording.specs.FileTraces.{traces_found, traces_recorded}
use Rattle.recording.proofs.HoldsTrace.{traces_count}
use Rattle.recording.proofs.judging.judge_recording.Goals as goal

-- a sound file
sound : (n : ℕ) (bytes : List ℕ) (r : Bool) → r ≡ is_recording n bytes → r ≡ true → SoundFile n bytes
sound n bytes r e h = passed_sound n bytes (is_true (sym e ∙ h))

size_is : (bytes : List ℕ) (k : ℕ) → k ≡ number_in (part 40 4 bytes) → k ≡ size_in bytes
unfolding size_in
size_is bytes k e = e

pub returns-then-not-is_recording : goal.returns-then-not-is_recording
unfolding traces_found traces_recorded judge_recording
returns-then-not-is_recording c = simp (sym c.is_recording.ensures ∙ c.if-not-is_recording.true)

pub four_bytes-requires : goal.four_bytes-requires
four_bytes-requires c = omega (arith, (sound c.args.n c.args.bytes.now _ c.is_recording.ensures c.if-not-is_recording.false).long)

pub returns : goal.returns
unfolding traces_found traces_recorded judge_recording
returns c =
    let b = c.args.bytes.now in
    let n = c.args.n in
    simp (sym c.is_recording.ensures ∙ c.if-not-is_recording.false)
    (ap some (ap (λ (k : ℕ). k / 2 / n) (size_is b _ c.four_bytes.ensures.0) ∙ sym (traces_count n b)))
