-- How many traces a file holds, as code answers it and as document 02 has it: none for a bad recording.
use Rattle.std.specs.Prelude.{ℕ, Option, Some, None, length}
use Rattle.std.proofs.Math.Option as m
use Rattle.dstree.specs.Recording.{Recording}

unfoldable pub traces_found : Option ℕ → m.Option ℕ
traces_found None = m.none
traces_found (Some count) = m.some count

unfoldable pub traces_recorded : m.Option Recording → m.Option ℕ
traces_recorded m.none = m.none
traces_recorded (m.some r) = m.some (length r.traces)
