-- `pairing::parts::won_part` meets its contract, arm by arm.
use Rattle.pairing.specs.Parts.{part_by}
use Rattle.pairing.proofs.parts.won_part.Goals as goal

pub returns-in-Factory : goal.returns-in-Factory
unfolding part_by
returns-in-Factory c = rw (c.in-Ok.is, c.in-Factory.is) c.stored_part.ensures

pub returns-in-Bench : goal.returns-in-Bench
unfolding part_by
returns-in-Bench c = rw (c.in-Ok.is, c.in-Bench.is) c.stored_part-in-Bench.ensures

pub returns-in-Err : goal.returns-in-Err
unfolding part_by
returns-in-Err c = rw c.in-Err.is
