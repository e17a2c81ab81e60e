-- The header in four sections, as code goes over it: fields of the one table, each section with the numbers that it says. A number that
-- only stands in other sections is 0 here.
use Rattle.std.specs.Prelude.{ℕ, List}
use Rattle.dstree.specs.Sheet.{part}
use Rattle.dstree.specs.Recording.{Field, header}

-- "the letters RIFF, a size 36 above the data size, WAVE"
abbrev pub riff_fields : ℕ → List Field
riff_fields size = part 0 3 (header 0 size)

-- ""fmt " of 16 bytes, format 1, one channel"
abbrev pub format_fields : List Field
format_fields = part 3 4 (header 0 0)

-- "any rate below 2^31, byte rate twice the rate, block align 2, 16 bits"
abbrev pub rate_fields : ℕ → List Field
rate_fields rate = part 7 4 (header rate 0)

-- ""data", the data size"
abbrev pub data_fields : ℕ → List Field
data_fields size = part 11 2 (header 0 size)

-- the bytes that they begin with
abbrev pub format_place : ℕ
format_place = 12

abbrev pub rate_place : ℕ
rate_place = 24

abbrev pub data_place : ℕ
data_place = 36
