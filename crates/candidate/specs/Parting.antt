-- What a walk along a leaf's traces says of a test (document 02, §3).
use Rattle.std.specs.Prelude.{ℕ, List}
use Rattle.dstree.specs.Measures.{Trace}
use Rattle.dstree.specs.Node.{Test}
use Rattle.dstree.specs.Adding.{goes_by, show_sides, fewest_first}
use Rattle.candidate.specs.declared.parting.Look.{Look}

-- "yes or no" and "how many it took"
abbrev pub look_of : List Trace → Test → List ℕ → Look
look_of stored test numbers = record { both = show_sides (goes_by stored test) numbers; taken = fewest_first (goes_by stored test) numbers }
