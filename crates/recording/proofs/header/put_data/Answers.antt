-- `recording::header::put_data` meets its contract: two fields, one behind the other.
use mathlib.Core.Path.{ap, ◌∙◌}
use mathlib.Core.List.{List}
use Prim.Native.Nat.{ℕ}
use lib.Seq.{sets}
use Rattle.dstree.specs.Sheet.{bytes_of, number_in}
use Rattle.dstree.specs.Recording.{header, field_bytes}
use Rattle.recording.proofs.header.put_data.Goals as goal

pub returns : goal.returns
unfolding header field_bytes bytes_of number_in
returns c =
    let size = c.args.size in
    c.put_four.ensures ∙ ap (λ (l : List ℕ). sets l 40 (bytes_of 4 size)) c.put_bytes.ensures
