-- `recording::header::put_riff` meets its contract: three fields, one behind another.
use mathlib.Core.Path.{ap, ◌∙◌}
use mathlib.Core.List.{List}
use Prim.Native.Nat.{ℕ, ◌+◌}
use lib.Seq.{sets}
use Rattle.dstree.specs.Sheet.{bytes_of, number_in}
use Rattle.dstree.specs.Recording.{letters_wave, header, field_bytes}
use Rattle.recording.proofs.header.put_riff.Goals as goal

pub returns : goal.returns
unfolding header field_bytes bytes_of number_in
returns c =
    let size = c.args.size in
    let sized = c.put_four.ensures ∙ ap (λ (l : List ℕ). sets l 4 (bytes_of 4 (36 + size))) c.put_bytes.ensures in
    c.put_bytes-2.ensures ∙ ap (λ (l : List ℕ). sets l 8 letters_wave) sized
