-- `pair_search::advancing::advance` meets its contract, by those of the functions that it calls.
use mathlib.Core.Path.{◌∙◌, ap}
use mathlib.Core.Bool.{Bool, ◌||◌}
use native.Mathlib.Omega.{arith}
use lib.ListN.{length}
use Rattle.segment.specs.Stored.{samples_of}
use Rattle.search.proofs.Facts.{walkable}
use Rattle.pair_search.specs.Limits.{past}
use Rattle.pair_search.proofs.advancing.advance.Goals as goal

pub read_ahead-read-requires : goal.read_ahead-read-requires
read_ahead-read-requires c = c.requires.0

pub limit_in-own-requires : goal.limit_in-own-requires
limit_in-own-requires c =
    let e = c.read_ahead-read.ensures in
    (omega (arith, e.room.few, e.no_fewer), e.room.long)

pub ask-requires : goal.ask-requires
ask-requires c =
    (rw c.requires.1 (walkable _ (samples_of c.args.query.now.trace.now) (length c.args.trail.now) c.requires.0.ready), c.requires.2)

pub returns : goal.returns
returns c =
    record {
      room = c.ask.ensures.room;
      advanced = record {
        between = c.read_ahead-read.result;
        read = c.read_ahead-read.ensures;
        limit = c.nearer_of-limit.result;
        limit_is = λ bound. c.nearer_of-limit.ensures bound ∙ ap (λ (t : Bool). t || past c.args.other bound) (c.limit_in-own.ensures bound);
        asked = c.ask.ensures.asked;
      };
    }
