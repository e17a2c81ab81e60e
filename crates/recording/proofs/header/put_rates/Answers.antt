-- `recording::header::put_rates` meets its contract: four fields, one behind another.
use mathlib.Core.Path.{ap, ◌∙◌}
use mathlib.Core.List.{List}
use Prim.Native.Nat.{ℕ, ◌*◌}
use lib.Seq.{sets}
use Rattle.dstree.specs.Sheet.{bytes_of}
use Rattle.dstree.specs.Recording.{header, field_bytes}
use Rattle.recording.proofs.header.put_rates.Goals as goal

pub returns : goal.returns
unfolding header field_bytes bytes_of
returns c =
    let rate = c.args.rate in
    let rated = c.put_four-2.ensures ∙ ap (λ (l : List ℕ). sets l 28 (bytes_of 4 (2 * rate))) c.put_four.ensures in
    let aligned = c.put_two.ensures ∙ ap (λ (l : List ℕ). sets l 32 (bytes_of 2 2)) rated in
    c.put_two-2.ensures ∙ ap (λ (l : List ℕ). sets l 34 (bytes_of 2 16)) aligned
