-- The formats and the kinds of blocks as code has them, and what each is to the definitions.
use Rattle.std.specs.Prelude.{ℕ, Bool, true, false}
use Rattle.dstree.specs.Sheet as sheets
use Rattle.dstree.specs.SheetWidths as widths
use Rattle.sheet.specs.declared.formats.Format.{Format}
use Rattle.sheet.specs.declared.formats.Format.TheVariants.{Narrow, Wide}
use Rattle.sheet.specs.declared.formats.BlockKind.{BlockKind}
use Rattle.sheet.specs.declared.formats.BlockKind.TheVariants.{Head, Samples, Labels}

-- whether a sheet of this format is wide
abbrev pub says_wide : Format → Bool
says_wide Narrow = false
says_wide Wide = true

-- what a sample takes and a block carries
abbrev pub format_by : Format → sheets.Format
format_by format = widths.format_by (says_wide format)

-- the number of a kind
abbrev pub kind_by : BlockKind → ℕ
kind_by (Head format) = (format_by format).head_kind
kind_by (Samples format) = (format_by format).sample_kind
kind_by Labels = sheets.label_kind
