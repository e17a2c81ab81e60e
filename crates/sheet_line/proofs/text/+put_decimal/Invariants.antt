-- The measure of `sheet_line::text::put_decimal`: the number, of which each call takes a tenth.
use Rattle.sheet_line.proofs.text.+put_decimal.Given as goal

abbrev pub decreases-put_decimal : goal.decreases-put_decimal
decreases-put_decimal l = l.v
