-- The theorem of the exported calls, from the contracts that they meet.
use mathlib.Core.Path.{refl}
use Rattle.library_c.proofs.silkendoz_open.Met as open_met
use Rattle.library_c.proofs.silkendoz_add.Met as add_met
use Rattle.library_c.proofs.silkendoz_nearest.Met as nearest_met
use Rattle.library_c.proofs.silkendoz_write_sheet.Met as write_met
use Rattle.library_c.proofs.silkendoz_read_sheet.Met as read_met
use Rattle.library_c.proofs.silkendoz_k_nearest.Met as list_met
use Rattle.library_c.proofs.silkendoz_import_recording.Met as import_met
use Rattle.library_c.proofs.silkendoz_export_recording.Met as export_met
use Rattle.library_c.proofs.silkendoz_check_tables.Met as check_met
use Rattle.library_c.proofs.silkendoz_match_batch.Met as batch_met
use Rattle.library_c.proofs.silkendoz_add_labelled.Met as add_labelled_met
use Rattle.library_c.proofs.silkendoz_label.Met as label_met
use Rattle.library_c.proofs.silkendoz_remote_match.Met as remote_met
use Rattle.library_c.proofs.silkendoz_count_bands.Met as band_met
use Rattle.library_c.proofs.silkendoz_match_both.Met as pair_met
use Rattle.library_c.proofs.silkendoz_match_within.Met as limit_met
use Rattle.library_c.proofs.silkendoz_match_clipped.Met as clip_met
use Rattle.demands.specs.Did.{searched_tables, own, tables_of}
use Rattle.demands.proofs.Theorem.{theorem}
use Rattle.exported_calls.specs.Theorem.{ExportedTheorem}
use Rattle.exported_calls.proofs.Follows.{follows}
use Rattle.exported_calls.proofs.Linked.{linked}
use Rattle.exported_calls.proofs.Parts.{part_handed}

pub exported_theorem : ExportedTheorem
exported_theorem = record {
  theorem = theorem;
  open_meets = open_met.met;
  add_meets = add_met.met;
  nearest_meets = nearest_met.met;
  write_meets = write_met.met;
  read_meets = read_met.met;
  list_meets = list_met.met;
  import_meets = import_met.met;
  export_meets = export_met.met;
  check_meets = check_met.met;
  batch_meets = batch_met.met;
  add_labelled_meets = add_labelled_met.met;
  label_meets = label_met.met;
  remote_meets = remote_met.met;
  band_meets = band_met.met;
  pair_meets = pair_met.met;
  limit_meets = limit_met.met;
  clip_meets = clip_met.met;
  open_clause = λ M 𝓤 𝓛 mem run κs args. refl;
  add_clause = λ M 𝓤 𝓛 mem run κs args. refl;
  nearest_clause = λ M 𝓤 𝓛 mem run κs args. refl;
  write_clause = λ M 𝓤 𝓛 mem run κs args. refl;
  read_clause = λ M 𝓤 𝓛 mem run κs args. refl;
  list_clause = λ M 𝓤 𝓛 mem run κs args. refl;
  import_clause = λ M 𝓤 𝓛 mem run κs args. refl;
  export_clause = λ M 𝓤 𝓛 mem run κs args. refl;
  check_clause = λ M 𝓤 𝓛 mem run κs args. refl;
  batch_clause = λ M 𝓤 𝓛 mem run κs args. refl;
  add_labelled_clause = λ M 𝓤 𝓛 mem run κs args. refl;
  label_clause = λ M 𝓤 𝓛 mem run κs args. refl;
  remote_clause = λ M 𝓤 𝓛 mem run κs args. refl;
  band_clause = λ M 𝓤 𝓛 mem run κs args. refl;
  pair_clause = λ M 𝓤 𝓛 mem run κs args. refl;
  limit_clause = λ M 𝓤 𝓛 mem run κs args. refl;
  clip_clause = λ M 𝓤 𝓛 mem run κs args. refl;
  follows = follows;
  part_is = λ κs lent code left_in claim.
      let args = searched_tables lent in
      let bench = searched_tables (own args).1 in
      part_handed (tables_of args) (tables_of bench) (own bench).1.0.now (own args).0.now (own bench).0.now _ _ _ refl refl claim.1;
  linked = linked;
}
