-- The sides of a test, over a list of traces.
use Rattle.std.specs.Prelude.{ℕ, Bool, not, List, ℤ, if◌then◌else◌}
use Rattle.integer.specs.Words.{those}
use Rattle.dstree.specs.Node.{Test, sends_left}
use Rattle.tables.specs.View.{trace_in}
use Rattle.tables.specs.Runs.{test_by}
use Rattle.candidate.specs.declared.siding.Trial.{Trial}

-- a trial's test, with a threshold
abbrev pub trial_test : Trial → ℤ → Test
trial_test c threshold = test_by c.on.first c.on.last c.by_scatter threshold

-- whether a trace is on the left side, or on the right one
abbrev pub on_side : Bool → Bool → Bool
on_side left goes = if left then goes else not goes

-- the numbers on one side
abbrev pub side_of : List ℤ → ℕ → Test → Bool → List ℕ → List ℕ
side_of samples n test left numbers = those (λ (t : ℕ). on_side left (sends_left test (trace_in samples n t))) numbers
