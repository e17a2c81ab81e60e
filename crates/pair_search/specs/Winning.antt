-- The nearer of two bests, each in a list of one.
use Rattle.dstree.specs.Pair.{Winner, won}
use Rattle.reading.specs.Nearest.{near}
use Rattle.pair_search.specs.BothSearched.{which_by}
use Rattle.pair_search.specs.declared.winning.Won.{Won}

-- which library, trace and distance
abbrev pub winner_by : Won → Winner
winner_by r = won (which_by r.library) (near r.trace r.distance)
