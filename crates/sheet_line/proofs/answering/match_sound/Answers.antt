-- `sheet_line::answering::match_sound` meets its contract: its arrays have the places that the most it takes needs.
use native.Mathlib.Omega.{arith}
use Rattle.dstree.specs.Measures.{samples_needed, records_needed, links_needed, work_needed, labels_needed}
use Rattle.sheet_line.proofs.answering.match_sound.Goals as goal

pub match_in-requires : goal.match_in-requires
unfolding samples_needed records_needed links_needed work_needed labels_needed
match_in-requires c = record {
  fine = c.requires;
  room = record {
    long = record {
      control_long = omega arith;
      samples_long = omega arith;
      nodes_long = omega arith;
      links_long = omega arith;
    };
    work_room = omega arith;
    labels_room = omega arith;
  };
}

pub returns : goal.returns
returns c = c.match_in.ensures
