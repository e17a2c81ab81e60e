-- `recording::header::put_header` meets its contract: four sections, one behind another.
use mathlib.Core.Path.{ap, ◌∙◌}
use mathlib.Core.List.{List}
use Prim.Native.Nat.{ℕ}
use lib.Seq.{sets}
use Rattle.dstree.specs.Recording.{field_bytes}
use Rattle.recording.specs.Sections.{format_fields, rate_fields, data_fields, format_place, rate_place, data_place}
use Rattle.recording.proofs.Put.{sections_put}
use Rattle.recording.proofs.header.put_header.Goals as goal

pub returns : goal.returns
returns c =
    let a = c.args in
    let formed = c.put_format.ensures ∙ ap (λ (l : List ℕ). sets l format_place (field_bytes format_fields)) c.put_riff.ensures in
    let rated = c.put_rates.ensures ∙ ap (λ (l : List ℕ). sets l rate_place (field_bytes (rate_fields a.rate))) formed in
    c.put_data.ensures
    ∙ ap (λ (l : List ℕ). sets l data_place (field_bytes (data_fields a.size))) rated
    ∙ sections_put a.rate a.size a.buffer.now
