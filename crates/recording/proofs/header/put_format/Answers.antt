-- `recording::header::put_format` meets its contract: four fields, one behind another.
use mathlib.Core.Path.{ap, ◌∙◌}
use mathlib.Core.List.{List}
use Prim.Native.Nat.{ℕ}
use lib.Seq.{sets}
use Rattle.dstree.specs.Sheet.{bytes_of, number_in}
use Rattle.dstree.specs.Recording.{header, field_bytes}
use Rattle.recording.proofs.header.put_format.Goals as goal

pub returns : goal.returns
unfolding header field_bytes bytes_of number_in
returns c =
    let sized = c.put_four.ensures ∙ ap (λ (l : List ℕ). sets l 16 (bytes_of 4 16)) c.put_bytes.ensures in
    let formed = c.put_two.ensures ∙ ap (λ (l : List ℕ). sets l 20 (bytes_of 2 1)) sized in
    c.put_two-2.ensures ∙ ap (λ (l : List ℕ). sets l 22 (bytes_of 2 1)) formed
