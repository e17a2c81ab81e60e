-- `recording::header::data_fits` meets its contract: the size is what the file says, so the letters decide.
use mathlib.Core.Path.{refl, sym, ◌∙◌}
use native.Mathlib.Omega.{arith}
use Rattle.dstree.specs.Sheet.{number_in}
use Rattle.dstree.specs.Recording.{letters_data, header, size_in}
use Rattle.recording.proofs.Begins.{field_before}
use Rattle.recording.proofs.Words.{word_is, data_bytes}
use Rattle.recording.proofs.header.data_fits.Goals as goal

pub returns : goal.returns
unfolding header size_in
returns c =
    let bytes = c.args.bytes.now in
    c.eq.ensures ∙ word_is bytes (λ i. omega (arith, (c.type_inv.bytes i).fits)) 36 (omega arith) letters_data data_bytes refl
    ∙ sym (field_before 36 4 (number_in letters_data) 4 (size_in bytes) bytes refl)
